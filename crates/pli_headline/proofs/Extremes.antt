-- MAX and MIN: a value in a0, and then the further one of it and of each value behind it.
use Rattle.std.proofs.Common.{◌≡◌, ℕ, suc, ◌+◌, ◌<◌, ◌≤◌, List, [], ◌∷◌, ◌++◌, Bool, true, false, refl, sym, ap, ◌∙◌, subst, arith}
use Rattle.std.specs.Prelude.{ℤ, int_lt, cond, max}
use Rattle.std.proofs.Math.Nat.{le-max_left, le-max_right}
use Rattle.rv_meaning.specs.declared.instr.Instr.{Instr}
use Rattle.rv_meaning.specs.declared.instr.Register.{Register}
use Rattle.rv_meaning.specs.declared.instr.BranchTest.TheVariants as Test
use Rattle.rv_meaning.specs.Words.{word, signed}
use Rattle.pli_typing.specs.TypedTree as Y
use Rattle.pli_meaning.specs.Operations.{further_extreme, extreme}
use Rattle.pli_meaning.specs.StorageState.{State}
use Rattle.pli_meaning.specs.Control.{Flow, Meaning, give, ◌>>=◌}
use Rattle.pli_serving.specs.ServiceState.{Services}
use Rattle.pli_coding.specs.Registers.{a0, u1}
use Rattle.pli_coding.specs.Assembly.{Code, size_of}
use Rattle.pli_coding.specs.Instructions.{move, skip_where}
use Rattle.pli_coding.specs.Environments.{Taken, is_register_left, with_number, save, fetch}
use Rattle.pli_coding.specs.Arithmetic.{extreme_code}
use Rattle.pli_coding.specs.Linking.{Links}
use Rattle.temporary_bounds.specs.Spare.{spare}
use Rattle.temporary_bounds.proofs.Takes.{none_spare, number_counts}
use Rattle.run_steps.specs.Engine.{Base, address}
use Rattle.run_steps.proofs.Linking.{size_append}
use Rattle.run_steps.specs.Items.{Linked, At}
use Rattle.run_steps.proofs.Items.{straight}
use Rattle.run_steps.specs.Numbers.{IsWide}
use Rattle.run_steps.proofs.Numbers.{word_small}
use Rattle.pli_headline.proofs.WordProducts.{signed_word}
use Rattle.run_steps.specs.Bodies.{Ground, Known}
use Rattle.run_steps.proofs.Jumps.{front_of, back_of, rest_of, skip_taken, skip_passed}
use Rattle.run_steps.specs.Temporaries.{Temporaries, Stays, held_with, words_with}
use Rattle.run_steps.proofs.Temporaries.{stays_same, stays_then, stays_saved, stays_less, waiting_saved}
use Rattle.run_steps.proofs.Temporaries.{waiting_kept, save_piece, fetch_piece}
use Rattle.pli_headline.proofs.Operators.{valued, paired, sum_zero}
use Rattle.pli_headline.proofs.Evaluations.{number_kind, Evaluates}
use Rattle.run_steps.specs.Reach.{Family, Aims, Comes, Closed}
use Rattle.run_steps.proofs.Reach.{before_closed, comes_on, onward}

-- ---- the further one of two

abbrev moved_over : Code
moved_over = move a0 u1 ∷ []

further_wide : (q : Bool) (a c : ℤ) → IsWide a → IsWide c → IsWide (cond q c a)
further_wide true a c wa wc = wc
further_wide false a c wa wc = wa

further_by : {X : Type 0} {links : Links} {code : List Instr} {i : ℕ} {g : Ground} {v : Services} {h t : ℕ → ℕ} {aims : Aims X} {flow : Flow X} (q : Bool) (closed : Closed code aims) (f : Family) (r r' : Register) (a c : ℤ) → IsWide a → Linked links code i (skip_where Test.Less r r' moved_over) → ((b : Base) → At b i (Known g v h t (paired (word a) (word c)) b) (f b)) → ((b : Base) → int_lt (signed ((f b).machine.registers r.index)) (signed ((f b).machine.registers r'.index)) ≡ q) → ((f' : Family) → ((b : Base) → At b (i + 2) (Known g v h t (valued (word (cond q c a))) b) (f' b)) → Comes code (i + 2) f' v aims flow) → Comes code i f v aims flow
further_by {i = i} true closed f r r' a c wa l at holds next' =
    onward closed (skip_taken i f Test.Less r r' moved_over l at holds)
    (λ f' at'. next' f' (λ b. record { pc = (at' b).pc; holds = record { body = (at' b).holds.body; regs = ((at' b).holds.regs.1.0, tt) } }))
further_by {code = code} {i = i} {g = g} {v = v} {h = h} {t = t} {aims = aims} {flow = flow} false closed f r r' a c wa l at holds next' =
    let two : i + 1 + 1 ≡ i + 2 = omega arith in
    onward closed (skip_passed i f Test.Less r r' moved_over l at holds)
    (λ f1 at1.
    onward closed (straight (i + 1) f1 v v (λ b. Known g v h t (valued (word a)) b) (rest_of _ moved_over l) (omega arith) (λ b. (at1 b).pc)
    (λ b. let o = (at1 b).holds in record {
      body = record { services = o.body.services; registers = o.body.registers; bytes = o.body.bytes; memory = o.body.memory };
      regs = (sum_zero _ (word a) o.regs.0 (word_small a wa), tt);
    }))
    (λ f2 at2. subst (λ n. Comes code n f2 v aims flow) (sym two) (next' f2 (λ b. record { pc = (at2 b).pc ∙ ap (address b) two; holds = (at2 b).holds }))))

-- two words read with their signs
less_by : (x y : ℕ) (a c : ℤ) → x ≡ word a → y ≡ word c → IsWide a → IsWide c → int_lt (signed x) (signed y) ≡ int_lt a c
less_by x y a c e f wa wc =
    ap (λ u. int_lt (signed u) (signed y)) e
    ∙ ap (λ u. int_lt (signed (word a)) (signed u)) f
    ∙ ap (λ u. int_lt u (signed (word c))) (signed_word a wa)
    ∙ ap (int_lt a) (signed_word c wc)

pub further_piece : {X : Type 0} {links : Links} {code : List Instr} {i : ℕ} {g : Ground} {v : Services} {h t : ℕ → ℕ} {aims : Aims X} {flow : Flow X} (extremum : Y.Extremum) (closed : Closed code aims) (f : Family) (a c : ℤ) → IsWide a → IsWide c → Linked links code i (extreme_code extremum) → ((b : Base) → At b i (Known g v h t (paired (word a) (word c)) b) (f b)) → ((f' : Family) → IsWide (further_extreme extremum a c) → ((b : Base) → At b (i + 2) (Known g v h t (valued (word (further_extreme extremum a c))) b) (f' b)) → Comes code (i + 2) f' v aims flow) → Comes code i f v aims flow
further_piece Y.Greatest closed f a c wa wc l at next' =
    further_by (int_lt a c) closed f u1 a0 a c wa l at (λ b. let o = (at b).holds.regs in less_by _ _ a c o.0 o.1.0 wa wc) (λ f' at'. next' f' (further_wide (int_lt a c) a c wa wc) at')
further_piece Y.Least closed f a c wa wc l at next' =
    further_by (int_lt c a) closed f a0 u1 a c wa l at (λ b. let o = (at b).holds.regs in less_by _ _ c a o.1.0 o.0 wc wa) (λ f' at'. next' f' (further_wide (int_lt c a) a c wa wc) at')

extreme_size : (extremum : Y.Extremum) → size_of (extreme_code extremum) ≡ 2
extreme_size Y.Greatest = refl
extreme_size Y.Least = refl

-- ---- those behind a value

-- from a value in a0, the code of further ones leaves the extreme of all
pub record Follows (links : Links) (code : List Instr) (g : Ground) (v : Services) (s : State) (k : ℕ) (words : ℕ) (extremum : Y.Extremum) (part : Taken → Code) (meaning : Meaning (List ℤ)) : Type 1 where
  pub does : {i : ℕ} {h t : ℕ → ℕ} {aims : Aims (List ℤ)} (closed : Closed code aims) (f : Family) (taken : Taken)
      (a : ℤ) → IsWide a → taken.words + suc words ≤ g.words + spare taken → Linked links code i (part taken)
      → ((b : Base) → At b i (Known g v h t (valued (word a)) b) (f b))
      → ((zs : List ℤ) (f' : Family) (h' t' : ℕ → ℕ) → IsWide (extreme extremum a zs) → Stays taken h t h' t'
      → ((b : Base) → At b (i + size_of (part taken)) (Known g v h' t' (valued (word (extreme extremum a zs))) b)
      (f' b)) → aims.done (i + size_of (part taken)) f' v zs s) → Comes code i f v aims (meaning k s)

pub follows_none : {links : Links} {code : List Instr} {g : Ground} {v : Services} {s : State} {k : ℕ} (extremum : Y.Extremum) → Follows links code g v s k 0 extremum (λ taken. []) (give [])
unfolding give
follows_none {v = v} {s = s} extremum =
    record {
      does = λ {i} {h} {t} {aims} closed f taken a wa room l at goal.
          let e : i ≡ i + 0 = omega arith in
          record {
            to = λ early. subst (λ u. aims.done u f v [] s) (sym e) (goal [] f h t wa (stays_same taken h t)
                (λ b. record { pc = (at b).pc ∙ ap (address b) e; holds = (at b).holds }));
          };
    }

-- the value waits while the next one is evaluated
abbrev pub next_part : (extremum : Y.Extremum) → (first rest : Taken → Code) → Taken → Code
next_part extremum first rest taken =
    save a0 taken ++ (first (with_number taken) ++ (fetch u1 taken ++ (extreme_code extremum ++ rest taken)))

pub follows_next : {links : Links} {code : List Instr} {g : Ground} {v : Services} {s : State} {k : ℕ} (temps : Temporaries g) (m n : ℕ) (extremum : Y.Extremum) {first rest : Taken → Code} {one : Meaning ℤ} {more : Meaning (List ℤ)} → Evaluates number_kind links code g v s k m first one → Follows links code g v s k n extremum rest more → Follows links code g v s k (max m n) extremum (next_part extremum first rest) (one >>= (λ z. more >>= (λ zs. give (z ∷ zs))))
unfolding ◌>>=◌ give
follows_next {links = links} {code = code} {g = g} {v = v} {s = s} {k = k} temps m n extremum {first = first} {rest = rest} {one = one} {more = more} el fs =
    record {
      does = λ {i} {h} {t} {aims} closed f taken a wa room l at goal.
          let put' = save a0 taken in
          let c = first (with_number taken) in
          let back = fetch u1 taken in
          let x = extreme_code extremum in
          let d = rest taken in
          let m1 = le-max_left m n in
          let m2 = le-max_right m n in
          let w = number_counts taken in
          let l2 = back_of put' (c ++ (back ++ (x ++ d))) l in
          let l3 = back_of c (back ++ (x ++ d)) l2 in
          let l4 = back_of back (x ++ d) l3 in
          let l5 = back_of x d l4 in
          let e1 = size_append put' (c ++ (back ++ (x ++ d))) in
          let e2 = size_append c (back ++ (x ++ d)) in
          let e3 = size_append back (x ++ d) in
          let e4 = size_append x d in
          let two = extreme_size extremum in
          let j = i + size_of put' + size_of c + size_of back in
          let mid : j + size_of x ≡ j + 2 = omega (arith, two) in
          let place : j + 2 + size_of d ≡ i + size_of (next_part extremum first rest taken) = omega (arith, e1, e2, e3, e4, two) in
          let l6 = subst (λ u. Linked links code u d) mid l5 in
          let left : is_register_left taken ≡ false
          → taken.words < g.words = λ none. let z = none_spare taken none in omega (arith, z, room) in
          let h1 = held_with taken (word a) h in
          let t1 = words_with taken (word a) t in
          let next' : ℤ → Meaning (List ℤ) = λ z. more >>= (λ zs. give (z ∷ zs)) in
          onward closed (save_piece temps i f a0 taken (word a) left (word_small a wa) (λ y u. refl) (λ b w' q. q.regs.0) (record { reserved_stay = λ y u. refl; known_stay = λ b y u q. q; set = λ y u. refl }) (front_of put' (c ++ (back ++ (x ++ d))) l) at)
          (λ f1 at1.
          comes_on k (one k s) next'
          (el.does (before_closed k next' closed) f1 (with_number taken) (omega (arith, room, m1, w)) (front_of c (back ++ (x ++ d)) l2) at1
          (λ z f2 h2 t2 wz stays2 at2.
          onward closed (fetch_piece temps (i + size_of put' + size_of c) f2 u1 taken (word a) left (word_small a wa) (waiting_kept taken stays2 ∙ waiting_saved taken h t (word a)) (record { reserved_stay = λ y u. refl; known_stay = λ b y u q. q; set = λ y u. refl }) (record { reserved_stay = λ y u. refl; known_stay = λ b y u q. q; set = λ y u. refl }) (front_of back (x ++ d) l3) at2)
          (λ f3 at3.
          further_piece extremum closed f3 a z wa wz (front_of x d l4) at3
          (λ f4 wide at4.
          comes_on k (more k s) (λ zs. give (z ∷ zs))
          (fs.does (before_closed k (λ zs. give (z ∷ zs)) closed) f4 taken (further_extreme extremum a z) wide (omega (arith, room, m2)) l6 at4
          (λ zs f5 h5 t5 wide5 stays5 at5.
          record {
            to = λ early.
                subst (λ u. aims.done u f5 v (z ∷ zs) s) (sym place)
                (goal (z ∷ zs) f5 h5 t5 wide5 (stays_then (stays_saved taken h t (word a)) (stays_then (stays_less stays2) stays5)) (λ b. record { pc = (at5 b).pc ∙ ap (address b) place; holds = (at5 b).holds }));
          })))))));
    }

pub extreme_evaluates : {links : Links} {code : List Instr} {g : Ground} {v : Services} {s : State} {k : ℕ} (m n : ℕ) (extremum : Y.Extremum) {first rest : Taken → Code} {one : Meaning ℤ} {more : Meaning (List ℤ)} → Evaluates number_kind links code g v s k m first one → Follows links code g v s k n extremum rest more → Evaluates number_kind links code g v s k (max m (suc n)) (λ taken. first taken ++ rest taken) (one >>= (λ z. more >>= (λ zs. give (extreme extremum z zs))))
unfolding ◌>>=◌ give
extreme_evaluates {v = v} {s = s} {k = k} m n extremum {first = first} {rest = rest} {one = one} {more = more} el fs =
    record {
      does = λ {i} {h} {t} {aims} closed f taken room l at goal.
          let a = first taken in
          let d = rest taken in
          let m1 = le-max_left m (suc n) in
          let m2 = le-max_right m (suc n) in
          let size = size_append a d in
          let place : i + size_of a + size_of d ≡ i + size_of (a ++ d) = omega (arith, size) in
          let next' : ℤ → Meaning ℤ = λ z. more >>= (λ zs. give (extreme extremum z zs)) in
          comes_on k (one k s) next'
          (el.does (before_closed k next' closed) f taken (omega (arith, room, m1)) (front_of a d l) at
          (λ z f1 h1 t1 wz stays1 at1.
          comes_on k (more k s) (λ zs. give (extreme extremum z zs))
          (fs.does (before_closed k (λ zs. give (extreme extremum z zs)) closed) f1 taken z wz (omega (arith, room, m2)) (back_of a d l) at1
          (λ zs f2 h2 t2 wide stays2 at2.
          record {
            to = λ early.
                subst (λ u. aims.done u f2 v (extreme extremum z zs) s) (sym place)
                (goal (extreme extremum z zs) f2 h2 t2 wide (stays_then stays1 stays2) (λ b. record { pc = (at2 b).pc ∙ ap (address b) place; holds = (at2 b).holds }));
          }))));
    }

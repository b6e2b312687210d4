-- The test of a loop's limit: above it, and with a negative step below it, the turns are over. The step waits in a
-- word, or is a constant of the code.
use Rattle.std.proofs.Common.{◌≡◌, ℕ, ◌+◌, ◌≤◌, List, [], ◌∷◌, ◌++◌, length, Option, None, Some, Bool, true, false}
use Rattle.std.proofs.Common.{refl, sym, ap, ◌∙◌, subst, arith}
use Rattle.std.specs.Prelude.{ℤ, pos, negsuc, not, nat_lt, nat_le, int_lt, int_le, ◌==◌, if◌then◌else◌}
use Rattle.std.proofs.lemmas.Bool.Decides.{nat_tests}
use Rattle.rv_meaning.specs.declared.instr.Instr.{Instr}
use Rattle.rv_meaning.specs.declared.instr.Register.{Register}
use Rattle.rv_meaning.specs.declared.instr.RegisterOp.TheVariants as Op
use Rattle.rv_meaning.specs.declared.instr.BranchTest.TheVariants as Test
use Rattle.rv_meaning.specs.Words.{word, signed, flag, operated}
use Rattle.pli_meaning.specs.StorageState.{State}
use Rattle.pli_meaning.specs.Control.{Meaning, choose}
use Rattle.pli_meaning.specs.Executing.{has_not_passed}
use Rattle.pli_serving.specs.ServiceState.{Services}
use Rattle.pli_coding.specs.Registers.{zero_register, frame_register, a0, u1, u2, u3}
use Rattle.pli_coding.specs.Assembly.{JumpAhead, Code, size_of}
use Rattle.pli_coding.specs.Instructions.{registers, load_word, skip_where}
use Rattle.pli_coding.specs.Environments.{Taken}
use Rattle.pli_coding.specs.Statements.{limit_place, step_place, passed, limit_tested}
use Rattle.pli_coding.specs.Linking.{Links}
use Rattle.run_steps.specs.Engine.{Base, address}
use Rattle.run_steps.proofs.Linking.{size_append}
use Rattle.run_steps.specs.Items.{Linked, At}
use Rattle.run_steps.proofs.Items.{straight}
use Rattle.run_steps.specs.Numbers.{IsWide}
use Rattle.run_steps.proofs.Numbers.{word_small}
use Rattle.pli_headline.proofs.WordProducts.{signed_word}
use Rattle.run_steps.specs.Bodies.{Ground, Known}
use Rattle.run_steps.proofs.Bodies.{zero_is}
use Rattle.run_steps.proofs.Jumps.{front_of, back_of, rest_of, skip_taken, skip_passed, ahead_piece}
use Rattle.run_steps.specs.Temporaries.{Temporaries, nothing}
use Rattle.pli_headline.proofs.Operators.{valued}
use Rattle.pli_headline.proofs.Ifs.{free_far}
use Rattle.pli_headline.proofs.Waiting.{read_piece}
use Rattle.run_steps.specs.Reach.{Family, Aims, Comes, Closed}
use Rattle.run_steps.proofs.Reach.{onward}

-- the step that turns go by
abbrev pub StepWaits : Option ℤ → (step : ℤ) → (t : ℕ → ℕ) → (j : ℕ) → Type 0
StepWaits None step t j = t j ≡ word step
StepWaits (Some z) step t j = step ≡ z

pub step_stays : (fixed : Option ℤ) (step : ℤ) (t t' : ℕ → ℕ) (j : ℕ) → t' j ≡ t j → StepWaits fixed step t j
    → StepWaits fixed step t' j
step_stays None step t t' j e waits = e ∙ waits
step_stays (Some z) step t t' j e waits = waits

-- ---- the test

le_not : (a b : ℤ) → int_le a b ≡ not (int_lt b a)
le_not (pos a) (pos b) = by_test a b (nat_le a b) refl
  where
    by_test : (a b : ℕ) (q : Bool) → nat_le a b ≡ q → nat_le a b ≡ not (nat_lt b a)
    by_test a b true e = grind (arith, nat_tests)
    by_test a b false e = grind (arith, nat_tests)
le_not (pos a) (negsuc b) = refl
le_not (negsuc a) (pos b) = refl
le_not (negsuc a) (negsuc b) = by_test b a (nat_le b a) refl
  where
    by_test : (a b : ℕ) (q : Bool) → nat_le a b ≡ q → nat_le a b ≡ not (nat_lt b a)
    by_test a b true e = grind (arith, nat_tests)
    by_test a b false e = grind (arith, nat_tests)

-- whether a value has passed the limit, by the sign of the step
abbrev pub has_passed : (falls : Bool) → (limit z : ℤ) → Bool
has_passed falls limit z = if falls then int_lt z limit else int_lt limit z

not_passed : (falls : Bool) (limit step z : ℤ) → int_lt step (pos 0) ≡ falls → has_not_passed limit step z ≡ not (has_passed falls limit z)
not_passed true limit step z e = ap (λ u. if u then int_le limit z else int_le z limit) e ∙ le_not limit z
not_passed false limit step z e = ap (λ u. if u then int_le limit z else int_le z limit) e ∙ le_not z limit

-- ---- its code

-- the test's flag in u3, beside step, limit and value
abbrev flagged : (p : Bool) → (step limit z : ℤ) → Base → List (ℕ × ℕ)
flagged p step limit z b = (28, flag p) ∷ (7, word step) ∷ (6, word limit) ∷ (10, word z) ∷ []

abbrev turned : Code
turned = registers Op.SetLess u3 a0 u1 ∷ []

less_flag : (x y : ℕ) (a c : ℤ) → x ≡ word a → y ≡ word c → IsWide a → IsWide c → operated Op.SetLess x y ≡ flag (int_lt a c)
less_flag x y a c e f wa wc =
    ap (λ u. operated Op.SetLess u y) e
    ∙ ap (operated Op.SetLess (word a)) f
    ∙ ap (λ u. flag (int_lt u (signed (word c)))) (signed_word a wa)
    ∙ ap (λ u. flag (int_lt a u)) (signed_word c wc)

rises : (x z : ℕ) (step : ℤ) (q : Bool) → x ≡ word step → z ≡ 0 → IsWide step → int_lt step (pos 0) ≡ q → (if int_lt (signed x) (signed z) then false else true) ≡ (if q then false else true)
rises x z step q e f w t =
    ap (λ u. if int_lt (signed u) (signed z) then false else true) e
    ∙ ap (λ u. if int_lt (signed (word step)) (signed u) then false else true) f
    ∙ ap (λ u. if int_lt u (pos 0) then false else true) (signed_word step w)
    ∙ ap (λ u. if u then false else true) t

by_sign : {X : Type 0} {links : Links} {code : List Instr} {i : ℕ} {g : Ground} {v : Services} {h t : ℕ → ℕ} {aims : Aims X} (s : State) (k : ℕ) (flow : Meaning X) (falls : Bool) (closed : Closed code aims) (f : Family) (limit step z : ℤ) → IsWide limit → IsWide step → IsWide z → int_lt step (pos 0) ≡ falls → Linked links code i (skip_where Test.GreaterOrEqual u2 zero_register turned) → ((b : Base) → At b i (Known g v h t (flagged (int_lt limit z) step limit z) b) (f b)) → ((f' : Family) → ((b : Base) → At b (i + 2) (Known g v h t (flagged (has_passed falls limit z) step limit z) b) (f' b)) → Comes code (i + 2) f' v aims (flow k s)) → Comes code i f v aims (flow k s)
by_sign {i = i} s k flow false closed f limit step z wl ws wz e l at next' =
    onward closed (skip_taken i f Test.GreaterOrEqual u2 zero_register turned l at (λ b. let o = (at b).holds in rises _ _ step false o.regs.1.0 (zero_is o.body) ws e)) next'
by_sign {code = code} {i = i} {g = g} {v = v} {h = h} {t = t} {aims = aims} s k flow true closed f limit step z wl ws wz e l at next' =
    let two : i + 1 + 1 ≡ i + 2 = omega arith in
    onward closed (skip_passed i f Test.GreaterOrEqual u2 zero_register turned l at (λ b. let o = (at b).holds in rises _ _ step true o.regs.1.0 (zero_is o.body) ws e))
    (λ f1 at1.
    onward closed (straight (i + 1) f1 v v (λ b. Known g v h t (flagged (int_lt z limit) step limit z) b) (rest_of _ turned l) (omega arith) (λ b. (at1 b).pc)
    (λ b. let o = (at1 b).holds in record {
      body = record { services = o.body.services; registers = o.body.registers; bytes = o.body.bytes; memory = o.body.memory };
      regs = (less_flag _ _ z limit o.regs.1.1.1.0 o.regs.1.1.0 wz wl, o.regs.1);
    }))
    (λ f2 at2. subst (λ n. Comes code n f2 v aims (flow k s)) (sym two) (next' f2 (λ b. record { pc = (at2 b).pc ∙ ap (address b) two; holds = (at2 b).holds }))))

is_clear : (p : Bool) (x z : ℕ) → x ≡ flag p → z ≡ 0 → (x == z) ≡ not p
is_clear true x z e f = ap (λ u. u == z) e ∙ ap (λ u. 1 == u) f
is_clear false x z e f = ap (λ u. u == z) e ∙ ap (λ u. 0 == u) f

-- past so many words where the flag is set
by_flag : {X : Type 0} {links : Links} {code : List Instr} {i : ℕ} {g : Ground} {v : Services} {h t : ℕ → ℕ} {aims : Aims X} (s : State) (k : ℕ) (one other : Meaning X) (p : Bool) (closed : Closed code aims) (f : Family) (limit step z : ℤ) (behind : ℕ) → i + 3 + behind ≤ length code → Linked links code i (skip_where Test.Equal u3 zero_register (JumpAhead behind ∷ [])) → ((b : Base) → At b i (Known g v h t (flagged p step limit z) b) (f b)) → ((f' : Family) → ((b : Base) → At b (i + 3) (Known g v h t nothing b) (f' b)) → Comes code (i + 3) f' v aims (one k s)) → ((f' : Family) → ((b : Base) → At b (i + 3 + behind) (Known g v h t nothing b) (f' b)) → Comes code (i + 3 + behind) f' v aims (other k s)) → Comes code i f v aims (choose (not p) one other k s)
unfolding choose
by_flag {i = i} s k one other false closed f limit step z behind inside l at within past' =
    onward closed (skip_taken i f Test.Equal u3 zero_register (JumpAhead behind ∷ []) l at (λ b. let o = (at b).holds in is_clear false _ _ o.regs.0 (zero_is o.body)))
    (λ f' at'. within f' (λ b. record { pc = (at' b).pc; holds = record { body = (at' b).holds.body; regs = tt } }))
by_flag {code = code} {i = i} {v = v} {aims = aims} s k one other true closed f limit step z behind inside l at within past' =
    let there : i + 1 + (2 + behind) ≡ i + 3 + behind = omega arith in
    onward closed (skip_passed i f Test.Equal u3 zero_register (JumpAhead behind ∷ []) l at (λ b. let o = (at b).holds in is_clear true _ _ o.regs.0 (zero_is o.body)))
    (λ f1 at1.
    onward closed (ahead_piece (i + 1) f1 behind (omega (arith, inside)) free_far (rest_of _ (JumpAhead behind ∷ []) l)
    (λ b. record { pc = (at1 b).pc; holds = record { body = (at1 b).holds.body; regs = tt } }))
    (λ f2 at2. subst (λ n. Comes code n f2 v aims (other k s)) (sym there) (past' f2 (λ b. record { pc = (at2 b).pc ∙ ap (address b) there; holds = (at2 b).holds }))))

-- the value in a0 against the limit and the step that wait
kept_piece : {X : Type 0} {links : Links} {code : List Instr} {i : ℕ} {g : Ground} {v : Services} {h t :
    ℕ → ℕ} {aims : Aims X} (s : State) (k : ℕ) (one other : Meaning X) (closed : Closed code aims) (temps :
    Temporaries g) (f : Family) (taken : Taken) (limit step z : ℤ) (behind : ℕ) → IsWide limit → IsWide step
    → IsWide z → taken.words + 2 ≤ g.words → t taken.words ≡ word limit → t (taken.words + 1) ≡ word step
    → i + size_of (limit_tested taken None behind) + behind ≤ length code
    → Linked links code i (limit_tested taken None behind)
    → ((b : Base) → At b i (Known g v h t (valued (word z)) b) (f b))
    → ((f' : Family)
    → ((b : Base) → At b (i + size_of (limit_tested taken None behind)) (Known g v h t nothing b) (f' b))
    → Comes code (i + size_of (limit_tested taken None behind)) f' v aims (one k s))
    → ((f' : Family)
    → ((b : Base) → At b (i + size_of (limit_tested taken None behind) + behind) (Known g v h t nothing b) (f' b))
    → Comes code (i + size_of (limit_tested taken None behind) + behind) f' v aims (other k s))
    → Comes code i f v aims (choose (has_not_passed limit step z) one other k s)
kept_piece {code = code} {i = i} {g = g} {v = v} {h = h} {t = t} {aims = aims} s k one other closed temps f taken
    limit step z behind wl ws wz room at_limit at_step inside l at within past' =
    let a = load_word u1 frame_register (limit_place taken) in
    let c = load_word u2 frame_register (step_place taken) in
    let first = registers Op.SetLess u3 u1 a0 ∷ [] in
    let sign = skip_where Test.GreaterOrEqual u2 zero_register turned in
    let last = skip_where Test.Equal u3 zero_register (JumpAhead behind ∷ []) in
    let l2 = back_of a (c ++ (first ++ (sign ++ last))) l in
    let l3 = back_of c (first ++ (sign ++ last)) l2 in
    let l4 = back_of first (sign ++ last) l3 in
    let l5 = back_of sign last l4 in
    let e1 = size_append a (c ++ (first ++ (sign ++ last))) in
    let e2 = size_append c (first ++ (sign ++ last)) in
    let j = i + size_of a + size_of c + 1 + 2 in
    let end' : j + 3 ≡ i + size_of (limit_tested taken None behind) = omega (arith, e1, e2) in
    let end'' : j + 3 + behind ≡ i + size_of (limit_tested taken None behind) + behind = omega (arith, e1, e2) in
    let falls = int_lt step (pos 0) in
    let chosen = choose (has_not_passed limit step z) one other in
    onward closed (read_piece temps i f u1 taken.words (word limit) (omega (arith, room)) (word_small limit wl) at_limit (record { reserved_stay = λ y u. refl; known_stay = λ b y u q. q; set = λ y u. refl }) (record { reserved_stay = λ y u. refl; known_stay = λ b y u q. q; set = λ y u. refl }) (front_of a (c ++ (first ++ (sign ++ last))) l) at)
    (λ f1 at1.
    onward closed (read_piece temps (i + size_of a) f1 u2 (taken.words + 1) (word step) (omega (arith, room)) (word_small step ws) at_step (record { reserved_stay = λ y u. refl; known_stay = λ b y u q. q; set = λ y u. refl }) (record { reserved_stay = λ y u. refl; known_stay = λ b y u q. q; set = λ y u. refl }) (front_of c (first ++ (sign ++ last)) l2) at1)
    (λ f2 at2.
    onward closed (straight (i + size_of a + size_of c) f2 v v (λ b. Known g v h t (flagged (int_lt limit z) step limit z) b) (front_of first (sign ++ last) l3) (omega arith) (λ b. (at2 b).pc)
    (λ b. let o = (at2 b).holds in record {
      body = record { services = o.body.services; registers = o.body.registers; bytes = o.body.bytes; memory = o.body.memory };
      regs = (less_flag _ _ limit z o.regs.1.0 o.regs.1.1.0 wl wz, o.regs);
    }))
    (λ f3 at3.
    by_sign s k chosen falls closed f3 limit step z wl ws wz refl (front_of sign last l4) at3
    (λ f4 at4.
    subst (λ q. Comes code j f4 v aims (choose q one other k s)) (sym (not_passed falls limit step z refl))
    (by_flag s k one other (has_passed falls limit z) closed f4 limit step z behind (omega (arith, inside, end'')) l5 at4
    (λ f5 at5. subst (λ n. Comes code n f5 v aims (one k s)) (sym end') (within f5 (λ b. record { pc = (at5 b).pc ∙ ap (address b) end'; holds = (at5 b).holds })))
    (λ f5 at5. subst (λ n. Comes code n f5 v aims (other k s)) (sym end'') (past' f5 (λ b. record { pc = (at5 b).pc ∙ ap (address b) end''; holds = (at5 b).holds }))))))))

-- ---- with a constant step

as_not : (p : Bool) → (if p then false else true) ≡ not p
as_not true = refl
as_not false = refl

not_less : (x y : ℕ) (a c : ℤ) → x ≡ word a → y ≡ word c → IsWide a → IsWide c
    → (if int_lt (signed x) (signed y) then false else true) ≡ not (int_lt a c)
not_less x y a c e f wa wc =
    ap (λ u. if int_lt (signed u) (signed y) then false else true) e
    ∙ ap (λ u. if int_lt (signed (word a)) (signed u) then false else true) f
    ∙ ap (λ u. if int_lt u (signed (word c)) then false else true) (signed_word a wa)
    ∙ ap (λ u. if int_lt a u then false else true) (signed_word c wc)
    ∙ as_not (int_lt a c)

-- limit and value beside each other
abbrev beside : (limit z : ℤ) → Base → List (ℕ × ℕ)
beside limit z b = (6, word limit) ∷ (10, word z) ∷ []

-- past so many words unless one register is at least another
by_order : {X : Type 0} {links : Links} {code : List Instr} {i : ℕ} {g : Ground} {v : Services} {h t : ℕ → ℕ} {rs :
    Base → List (ℕ × ℕ)} {aims : Aims X} (s : State) (k : ℕ) (one other : Meaning X) (p : Bool) (closed :
    Closed code aims) (f : Family) (r q : Register) (behind : ℕ) → i + 3 + behind ≤ length code
    → Linked links code i (skip_where Test.GreaterOrEqual r q (JumpAhead behind ∷ []))
    → ((b : Base) → At b i (Known g v h t rs b) (f b))
    → ((b : Base)
    → (if int_lt (signed ((f b).machine.registers r.index)) (signed ((f b).machine.registers q.index)) then false else
    true) ≡ not p) → ((f' : Family) → ((b : Base) → At b (i + 3) (Known g v h t nothing b) (f' b))
    → Comes code (i + 3) f' v aims (one k s))
    → ((f' : Family) → ((b : Base) → At b (i + 3 + behind) (Known g v h t nothing b) (f' b))
    → Comes code (i + 3 + behind) f' v aims (other k s)) → Comes code i f v aims (choose (not p) one other k s)
unfolding choose
by_order {i = i} s k one other false closed f r q behind inside l at holds within past' =
    onward closed (skip_taken i f Test.GreaterOrEqual r q (JumpAhead behind ∷ []) l at holds)
    (λ f' at'. within f' (λ b. record { pc = (at' b).pc; holds = record { body = (at' b).holds.body; regs = tt } }))
by_order {code = code} {i = i} {v = v} {aims = aims} s k one other true closed f r q behind inside l at holds within
    past' =
    let there : i + 1 + (2 + behind) ≡ i + 3 + behind = omega arith in
    onward closed (skip_passed i f Test.GreaterOrEqual r q (JumpAhead behind ∷ []) l at holds)
    (λ f1 at1.
    onward closed (ahead_piece (i + 1) f1 behind (omega (arith, inside)) free_far (rest_of _ (JumpAhead behind ∷ []) l)
    (λ b. record { pc = (at1 b).pc; holds = record { body = (at1 b).holds.body; regs = tt } }))
    (λ f2 at2. subst (λ n. Comes code n f2 v aims (other k s)) (sym there)
    (past' f2 (λ b. record { pc = (at2 b).pc ∙ ap (address b) there; holds = (at2 b).holds }))))

by_direction : {X : Type 0} {links : Links} {code : List Instr} {i : ℕ} {g : Ground} {v : Services} {h t :
    ℕ → ℕ} {aims : Aims X} (s : State) (k : ℕ) (one other : Meaning X) (falls : Bool) (closed : Closed code aims) (f :
    Family) (limit z : ℤ) (behind : ℕ) → IsWide limit → IsWide z
    → i + size_of (passed falls behind) + behind ≤ length code → Linked links code i (passed falls behind)
    → ((b : Base) → At b i (Known g v h t (beside limit z) b) (f b))
    → ((f' : Family) → ((b : Base) → At b (i + size_of (passed falls behind)) (Known g v h t nothing b) (f' b))
    → Comes code (i + size_of (passed falls behind)) f' v aims (one k s))
    → ((f' : Family)
    → ((b : Base) → At b (i + size_of (passed falls behind) + behind) (Known g v h t nothing b) (f' b))
    → Comes code (i + size_of (passed falls behind) + behind) f' v aims (other k s))
    → Comes code i f v aims (choose (not (has_passed falls limit z)) one other k s)
by_direction s k one other true closed f limit z behind wl wz inside l at within past' =
    by_order s k one other (int_lt z limit) closed f a0 u1 behind inside l at (λ b. let o =
    (at b).holds.regs in not_less _ _ z limit o.1.0 o.0 wz wl) within past'
by_direction s k one other false closed f limit z behind wl wz inside l at within past' =
    by_order s k one other (int_lt limit z) closed f u1 a0 behind inside l at (λ b. let o =
    (at b).holds.regs in not_less _ _ limit z o.0 o.1.0 wl wz) within past'

-- the value in a0 against the limit that waits, by the step
pub limit_piece : {X : Type 0} {links : Links} {code : List Instr} {i : ℕ} {g : Ground} {v : Services} {h t :
    ℕ → ℕ} {aims : Aims X} (s : State) (k : ℕ) (one other : Meaning X) (closed : Closed code aims) (temps :
    Temporaries g) (f : Family) (taken : Taken) (fixed : Option ℤ) (limit step z : ℤ) (behind : ℕ) → IsWide limit
    → IsWide step → IsWide z → taken.words + 2 ≤ g.words → t taken.words ≡ word limit
    → StepWaits fixed step t (taken.words + 1) → i + size_of (limit_tested taken fixed behind) + behind ≤ length code
    → Linked links code i (limit_tested taken fixed behind)
    → ((b : Base) → At b i (Known g v h t (valued (word z)) b) (f b))
    → ((f' : Family)
    → ((b : Base) → At b (i + size_of (limit_tested taken fixed behind)) (Known g v h t nothing b) (f' b))
    → Comes code (i + size_of (limit_tested taken fixed behind)) f' v aims (one k s))
    → ((f' : Family)
    → ((b : Base) → At b (i + size_of (limit_tested taken fixed behind) + behind) (Known g v h t nothing b) (f' b))
    → Comes code (i + size_of (limit_tested taken fixed behind) + behind) f' v aims (other k s))
    → Comes code i f v aims (choose (has_not_passed limit step z) one other k s)
limit_piece s k one other closed temps f taken None limit step z behind wl ws wz room at_limit at_step inside l at
    within past' =
    kept_piece s k one other closed temps f taken limit step z behind wl ws wz room at_limit at_step inside l at
    within past'
limit_piece {code = code} {i = i} {v = v} {aims = aims} s k one other closed temps f taken (Some c) limit step z
    behind wl ws wz room at_limit at_step inside l at within past' =
    let a = load_word u1 frame_register (limit_place taken) in
    let falls = int_lt c (pos 0) in
    let last = passed falls behind in
    let size = size_append a last in
    let end' : i + size_of a + size_of last ≡ i + size_of (a ++ last) = omega (arith, size) in
    let end'' : i + size_of a + size_of last + behind ≡ i + size_of (a ++ last) + behind = omega (arith, size) in
    onward closed (read_piece temps i f u1 taken.words (word limit) (omega (arith, room)) (word_small limit wl)
    at_limit (record { reserved_stay = λ y u. refl; known_stay = λ b y u q. q; set = λ y u. refl })
    (record { reserved_stay = λ y u. refl; known_stay = λ b y u q. q; set = λ y u. refl }) (front_of a last l) at)
    (λ f1 at1.
    subst (λ q. Comes code (i + size_of a) f1 v aims (choose q one other k s))
    (sym (not_passed falls limit step z (ap (λ u. int_lt u (pos 0)) at_step)))
    (by_direction s k one other falls closed f1 limit z behind wl wz (omega (arith, inside, end'')) (back_of a last l)
    at1
    (λ f2 at2. subst (λ n. Comes code n f2 v aims (one k s)) (sym end')
    (within f2 (λ b. record { pc = (at2 b).pc ∙ ap (address b) end'; holds = (at2 b).holds })))
    (λ f2 at2. subst (λ n. Comes code n f2 v aims (other k s)) (sym end'')
    (past' f2 (λ b. record { pc = (at2 b).pc ∙ ap (address b) end''; holds = (at2 b).holds })))))

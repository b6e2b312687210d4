-- Conditions are raised: without a unit in force, or with one that leaves it to the system, the run ends.
use Rattle.std.proofs.Common.{◌≡◌, ℕ, suc, ◌+◌, ◌*◌, ◌^◌, ◌<◌, ◌≤◌, List, [], ◌∷◌, ◌++◌, Some, None, true, refl, sym, ap, ◌∙◌, subst, arith, lit<, add-one}
use Rattle.std.specs.Prelude.{cond, Option, ◌==◌}
use Rattle.std.proofs.lemmas.Bool.{lt-ltb}
use Rattle.pli_language.specs.declared.condition.Condition.{Condition}
use Rattle.pli_language.specs.declared.condition.Condition.TheVariants as C
use Rattle.pli_meaning.specs.declared.outcome.End.TheVariants as E
use Rattle.rv_meaning.specs.declared.instr.Instr.{Instr}
use Rattle.rv_meaning.specs.declared.instr.Instr.TheVariants as I
use Rattle.rv_meaning.specs.declared.instr.BranchTest.TheVariants as Test
use Rattle.rv_meaning.specs.Words.{sum}
use Rattle.pli_meaning.specs.World.{World, raising, ending}
use Rattle.pli_meaning.specs.StorageState.{OnUnit, SystemUnit, BlockUnit, Activation, State, with_world, force}
use Rattle.pli_meaning.specs.Control.{act, looked, finish, ◌>>=◌, ◌>>◌}
use Rattle.pli_meaning.specs.Raising as R
use Rattle.pli_meaning.specs.Raising.{Around}
use Rattle.pli_serving.specs.ServiceState as S
use Rattle.pli_serving.specs.ServiceState.{Services}
use Rattle.pli_serving.specs.Answers as N
use Rattle.pli_serving.specs.Answers.{Answer, Done, Ends, Bad, acting}
use Rattle.pli_serving.specs.Finding.{Call}
use Rattle.pli_serving.specs.OnUnits as U
use Rattle.pli_serving.specs.ActsAndEnds as W
use Rattle.pli_serving.specs.Outcomes.{or_bad, bad_unless}
use Rattle.pli_coding.specs.Registers.{zero_register, return_register, a0, a2, a7, u0}
use Rattle.pli_coding.specs.Assembly.{RaiseCondition, RaiseError, ErrorEnd, Mark, BaseIn, OffsetOf, JumpAhead, Plain, size_of}
use Rattle.pli_coding.specs.Linking.{Links, place_of}
use Rattle.pli_coding.specs.Instructions.{small, subtract}
use Rattle.pli_coding.specs.Images.{raise_code, error_code, unit_begun, to_unit, error_end}
use Rattle.run_steps.specs.Engine.{Base, address, call_at}
use Rattle.run_steps.specs.Items.{Linked, At}
use Rattle.run_steps.proofs.Items.{straight}
use Rattle.run_steps.specs.Bodies.{Ground, Known}
use Rattle.run_steps.proofs.Bodies.{zero_is}
use Rattle.run_steps.proofs.Jumps.{first_of, rest_of, front_of, back_of, skip_taken}
use Rattle.pli_headline.proofs.Activations.{OnlyIf, only_in_force, only_served}
use Rattle.run_steps.specs.Calls.{Calling}
use Rattle.run_steps.proofs.Calls.{comes_act, comes_finish, called, call_acts, call_pauses, end_pauses, call_ends, acts}
use Rattle.pli_headline.proofs.Serving.{Serving}
use Rattle.run_steps.specs.Reach.{Family, cost, Aims, Comes, Closed, reached}
use Rattle.run_steps.proofs.Reach.{before_closed, comes_on, onward, reached_holds}

-- ---- the routines

-- where the routines of raises stand
pub record Routines (links : Links) (code : List Instr) : Type 0 where
  pub at : ℕ
  pub later : 0 < at
  pub linked : Linked links code at raise_code
  pub condition : place_of links RaiseCondition ≡ 4 * at
  pub error : place_of links RaiseError ≡ 4 * (at + 8)
  pub end : place_of links ErrorEnd < 2 ^ 32

pub small_is : (z n : ℕ) → z ≡ 0 → n < 2 ^ 32 → sum z n ≡ n
small_is z n e h = omega (arith, e, h)

-- ---- what stands between meaning and services behind an act

pub with_act : {k : ℕ} {s : State} {v : Services} {line : ℕ} (change : World → World) → ((w : World) → (change w).acts ≡ w.acts + 1) → ((w : World) → (change w).end ≡ w.end) → Serving k s v line → s.world.acts < k → Serving k (with_world (change s.world) s) (N.with_world (change v.world) v) line
with_act {v = v} change more same o below =
    let a = ap (λ (w : World). w.acts) o.world in
    let n = more v.world in
    record {
      world = ap change o.world;
      running = same v.world ∙ o.running;
      line_is = o.line_is;
      input = o.input;
      allowed = omega (arith, a, n, below);
      fits = o.fits;
      nested = o.nested;
      waiting = o.waiting;
      places = o.places;
    }

-- ---- service 30

abbrev pub raised_by : Condition → ℕ → Services → Services
raised_by c code v = N.with_world (raising c code v.world) v

answered_only : (call : Call) (v : Services) (n resume : ℕ) (o : Option (S.Activation × S.OnUnit)) → OnlyIf S.SystemUnit o → U.raise_answered call v n resume o ≡ Done v call.memory 0 n
answered_only call v n resume None h = refl
answered_only call v n resume (Some (a, S.SystemUnit)) h = refl
answered_only call v n resume (Some (a, S.CodeUnit at)) h = absurd (cc h)

raise_answer : (code : List Instr) (v : Services) (m : List ℕ) (c : Condition) (number n resume k : ℕ) → U.condition_of number ≡ Some c → n < 2 ^ 16 → OnlyIf S.SystemUnit (U.force v.activations c) → v.world.acts ≤ k → k + 1 < 2 ^ 64 → U.raise_served (call_at code v m) number n resume ≡ Done (raised_by c n v) m 0 n
raise_answer code v m c number n resume k e small' only h fits =
    let t : W.is_code n ≡ true = lt-ltb n (2 ^ 16) small' in
    let call = call_at code v m in
    let found : Option (S.Activation × S.OnUnit) → Answer = λ o. U.raise_answered call (raised_by c n v) n resume o in
    let next : Condition → Answer = λ q. bad_unless (W.is_code n) (acting v (U.raise_answered call (raised_by q n v) n resume (U.force v.activations q))) in
    ap (λ u. or_bad u next) e ∙ ap (λ u. cond u (acting v (found (U.force v.activations c))) Bad) t ∙ acts v k _ h fits ∙ answered_only call (raised_by c n v) n resume (U.force v.activations c) only

abbrev raising_regs : (number n : ℕ) → Base → List (ℕ × ℕ)
raising_regs number n b = (10, number) ∷ (11, n) ∷ (17, 30) ∷ []

-- a code in a1
abbrev pub coded : (n : ℕ) → Base → List (ℕ × ℕ)
coded n b = (11, n) ∷ []

-- a condition's number in a0, and a code in a1
abbrev pub conditioned : (number n : ℕ) → Base → List (ℕ × ℕ)
conditioned number n b = (10, number) ∷ (11, n) ∷ []

raise_calling : {links : Links} {code : List Instr} {i : ℕ} {g : Ground} {v : Services} {h t : ℕ → ℕ} (f : Family) (c : Condition) (number n k : ℕ) → Linked links code i (Plain I.Ecall ∷ []) → U.condition_of number ≡ Some c → n < 2 ^ 16 → OnlyIf S.SystemUnit (U.force v.activations c) → v.world.acts ≤ k → k + 1 < 2 ^ 64 → ((b : Base) → At b i (Known g v h t (raising_regs number n) b) (f b)) → Calling links code i f (λ b. Done (raised_by c n v) (f b).machine.memory 0 n)
raise_calling {code = code} {v = v} f c number n k l e small' only h fits at =
    record {
      linked = l;
      pc = λ b. (at b).pc;
      answers = λ b.
          let o = (at b).holds in
          called code (f b) v 30 number n _ _ _ (λ call x0 x1 x2 x3 x4. U.raise_served call x0 x1 x2) o.body.services o.regs.1.1.0 o.regs.0 o.regs.1.0 refl refl refl (λ call x. refl)
          ∙ raise_answer code v (f b).machine.memory c number n _ k e small' only h fits;
    }

-- a raise of a condition without a unit of the program: an act, and 0 and the code come back
raised_here : {links : Links} {code : List Instr} {i : ℕ} {g : Ground} {v : Services} {h t : ℕ → ℕ} {s : State} {line : ℕ} {aims : Aims (Unit {0})} (closed : Closed code aims) (credits : ℕ) (f : Family) (c : Condition) (number n k : ℕ) → credits < cost code → Linked links code i (Plain I.Ecall ∷ []) → U.condition_of number ≡ Some c → n < 2 ^ 16 → OnlyIf S.SystemUnit (U.force v.activations c) → Serving k s v line → ((b : Base) → At b i (Known g v h t (raising_regs number n) b) (f b)) → ((f' : Family) → Serving k (with_world (raising c n s.world) s) (raised_by c n v) line → ((b : Base) → At b (i + 1) (Known g (raised_by c n v) h t (conditioned 0 n) b) (f' b)) → aims.done 0 f' (raised_by c n v) tt (with_world (raising c n s.world) s)) → Comes code credits f v aims (act (raising c n) k s)
raised_here {code = code} {i = i} {g = g} {v = v} {h = h} {t = t} {s = s} closed credits f c number n k few l e small' only serving at next' =
    let v' = raised_by c n v in
    let calling = raise_calling f c number n k l e small' only serving.allowed serving.fits at in
    let more : v'.world.acts ≡ suc v.world.acts = add-one v.world.acts in
    let pauses = call_pauses credits f v v' (λ b. (f b).machine.memory) (λ b. 0) (λ b. n) few serving.running (λ b. (at b).holds.body.services) more calling in
    let r = call_acts credits 0 f v v' (λ b. (f b).machine.memory) (λ b. 0) (λ b. n) (λ b. Known g v' h t (conditioned 0 n) b) few more calling
    (λ b. let o = (at b).holds.body in record { body = record { services = refl; registers = o.registers; bytes = o.bytes; memory = o.memory }; regs = (refl, (refl, tt)) }) in
    comes_act (raising c n) k _ serving.world pauses
    (λ below. closed.done r tt _ (next' (reached r) (with_act (raising c n) (λ w. refl) (λ w. refl) serving below) (reached_holds r)))

-- ---- ERROR

zero_equal : (x y : ℕ) → x ≡ 0 → y ≡ 0 → (x == y) ≡ true
zero_equal x y e f = ap (λ u. u == y) e ∙ ap (λ u. 0 == u) f

error_answer : (code : List Instr) (v : Services) (m : List ℕ) (n k line : ℕ) → n < 2 ^ 16 → v.line ≡ line → v.world.acts ≤ k → k + 1 < 2 ^ 64 → W.end_served (call_at code v m) 2 n ≡ Ends (N.with_world (ending (E.Error n line) v.world) v)
error_answer code v m n k line small' e h fits =
    let t : W.is_code n ≡ true = lt-ltb n (2 ^ 16) small' in
    ap (λ u. or_bad (cond u (Some (E.Error n v.line)) None) (λ end. W.run_ended end v)) t
    ∙ acts v k _ h fits
    ∙ ap (λ u. Ends (N.with_world (ending (E.Error n u) v.world) v)) e

-- the run ends with ERROR's code
error_ends : {X : Type 0} {links : Links} {code : List Instr} {i : ℕ} {g : Ground} {v : Services} {h t : ℕ → ℕ} {s : State} {aims : Aims X} (closed : Closed code aims) (credits : ℕ) (f : Family) (n k line : ℕ) → n < 2 ^ 16 → credits + 2 < cost code → Linked links code i error_end → Serving k s v line → ((b : Base) → At b i (Known g v h t (conditioned 0 n) b) (f b)) → Comes code credits f v aims (finish {R = X} (E.Error n line) k s)
error_ends {X = X} {code = code} {i = i} {g = g} {v = v} {h = h} {t = t} {s = s} closed credits f n k line small' few l serving at =
    let front = Mark ErrorEnd ∷ small a0 2 ∷ small a7 2 ∷ [] in
    let r = straight credits f v v (λ b. Known g v h t (λ b'. (10, 2) ∷ (11, n) ∷ (17, 2) ∷ []) b) (front_of front (Plain I.Ecall ∷ []) l) (omega arith) (λ b. (at b).pc)
    (λ b. let o = (at b).holds in let z = zero_is o.body in record {
      body = record { services = o.body.services; registers = o.body.registers; bytes = o.body.bytes; memory = o.body.memory };
      regs = (small_is _ 2 z (lit< tt), (o.regs.1.0, (small_is _ 2 z (lit< tt), tt)));
    }) in
    onward closed r (λ f' at'.
    let v' = N.with_world (ending (E.Error n line) v.world) v in
    let calling : Calling _ code (i + 2) f' (λ b. Ends v') = record {
      linked = back_of front (Plain I.Ecall ∷ []) l;
      pc = λ b. (at' b).pc;
      answers = λ b.
          let o = (at' b).holds in
          called code (f' b) v 2 2 n _ _ _ (λ call x0 x1 x2 x3 x4. W.end_served call x0 x1) o.body.services o.regs.1.1.0 o.regs.0 o.regs.1.0 refl refl refl (λ call x. refl)
          ∙ error_answer code v (f' b).machine.memory n k line small' serving.line_is serving.allowed serving.fits;
    } in
    comes_finish v' (E.Error n line) k s serving.world (ap (ending (E.Error n line)) serving.world)
    (end_pauses (credits + 2) f' v v' few serving.running (λ b. (at' b).holds.body.services) (add-one v.world.acts) calling)
    (call_ends (credits + 2) f' v v' (λ e. cc e) calling))

error_run_is : (X : Type 0) (around : Around) (n k : ℕ) (s : State) (o : Option (Activation × OnUnit)) → OnlyIf SystemUnit o → R.error_unit_run {R = X} around n o k s ≡ finish {R = X} (E.Error n around.line) k s
unfolding R.error_unit_run
error_run_is X around n k s None h = refl
error_run_is X around n k s (Some (a, SystemUnit)) h = refl
error_run_is X around n k s (Some (a, BlockUnit block)) h = absurd (cc h)

unit_of_error : (X : Type 0) (around : Around) (n k : ℕ) (s : State) → OnlyIf SystemUnit (force s.activations C.Error) → ((looked >>= (λ u. R.error_unit_run {R = X} around n (force u.activations C.Error))) k s) ≡ finish {R = X} (E.Error n around.line) k s
unfolding looked ◌>>=◌
unit_of_error X around n k s only = error_run_is X around n k s (force s.activations C.Error) only

-- ERROR is raised at its routine
pub error_piece : {X : Type 0} {links : Links} {code : List Instr} {g : Ground} {v : Services} {h t : ℕ → ℕ} {s : State} {aims : Aims X} (closed : Closed code aims) (routines : Routines links code) (credits : ℕ) (f : Family) (around : Around) (n k : ℕ) → n < 2 ^ 16 → credits + 4 < cost code → Serving k s v around.line → ((b : Base) → At b (routines.at + 8) (Known g v h t (coded n) b) (f b)) → Comes code credits f v aims (R.error {R = X} around n k s)
unfolding R.error ◌>>◌
error_piece {X = X} {links = links} {code = code} {g = g} {v = v} {h = h} {t = t} {s = s} closed routines credits f around n k small' few serving at =
    let j = routines.at + 8 in
    let before' = Mark RaiseCondition ∷ BaseIn u0 ∷ subtract a2 return_register u0 ∷ small a7 30 ∷ Plain I.Ecall ∷ to_unit (size_of error_code) in
    let here = back_of before' (error_code ++ unit_begun) routines.linked in
    let front = Mark RaiseError ∷ small a0 5 ∷ OffsetOf a2 ErrorEnd ∷ small a7 30 ∷ [] in
    let behind = to_unit (size_of error_end) ++ error_end in
    let mine = front_of error_code unit_begun here in
    let r = straight credits f v v (λ b. Known g v h t (raising_regs 5 n) b) (front_of front (Plain I.Ecall ∷ behind) mine) (omega arith) (λ b. (at b).pc)
    (λ b. let o = (at b).holds in let z = zero_is o.body in (
      routines.end,
      refl,
      record {
        body = record { services = o.body.services; registers = o.body.registers; bytes = o.body.bytes; memory = o.body.memory };
        regs = (small_is _ 5 z (lit< tt), (o.regs.0, (small_is _ 30 z (lit< tt), tt)));
      },
    )) in
    let at_call = back_of front (Plain I.Ecall ∷ behind) mine in
    let at_test = rest_of (Plain I.Ecall) behind at_call in
    let next' = λ (u : Unit {0}). looked >>= (λ x. R.error_unit_run {R = X} around n (force x.activations C.Error)) in
    onward closed r (λ f1 at1.
    comes_on k (act (raising C.Error n) k s) next'
    (raised_here (before_closed k next' closed) (credits + 4) f1 C.Error 5 n k few (first_of (Plain I.Ecall) behind at_call) refl small' (only_served s.activations v.activations serving.nested C.Error refl) serving at1
    (λ f2 serving2 at2.
    let s2 = with_world (raising C.Error n s.world) s in
    let q = skip_taken 0 f2 Test.Equal a0 zero_register (JumpAhead (size_of error_end) ∷ []) (front_of (to_unit (size_of error_end)) error_end at_test) at2 (λ b. zero_equal _ _ (at2 b).holds.regs.0 (zero_is (at2 b).holds.body)) in
    subst (Comes code 0 f2 (raised_by C.Error n v) _) (sym (unit_of_error X around n k s2 (only_in_force s2.activations v.activations serving2.nested C.Error refl)))
    (onward closed q (λ f3 at3. error_ends closed 3 f3 n k around.line small' (let i = mine.inside in omega (arith, i)) (back_of (to_unit (size_of error_end)) error_end at_test) serving2 at3)))))

-- ---- other conditions

unit_run_is : (around : Around) (n k : ℕ) (s : State) (o : Option (Activation × OnUnit)) → OnlyIf SystemUnit o → R.unit_run around n o k s ≡ R.error around n k s
unfolding R.unit_run
unit_run_is around n k s None h = refl
unit_run_is around n k s (Some (a, SystemUnit)) h = refl
unit_run_is around n k s (Some (a, BlockUnit block)) h = absurd (cc h)

unit_of_raise : (around : Around) (c : Condition) (n k : ℕ) (s : State) → OnlyIf SystemUnit (force s.activations c) → ((looked >>= (λ u. R.unit_run around n (force u.activations c))) k s) ≡ R.error around n k s
unfolding looked ◌>>=◌
unit_of_raise around c n k s only = unit_run_is around n k s (force s.activations c) only

-- a condition is raised at its routine, where no unit of the program is in force for it
pub raise_piece : {links : Links} {code : List Instr} {g : Ground} {v : Services} {h t : ℕ → ℕ} {s : State} {aims : Aims (Unit {0})} (closed : Closed code aims) (routines : Routines links code) (credits : ℕ) (f : Family) (around : Around) (c : Condition) (number n k : ℕ) → U.condition_of number ≡ Some c → n < 2 ^ 16 → credits + 4 < cost code → OnlyIf SystemUnit (force s.activations c) → OnlyIf S.SystemUnit (U.force v.activations c) → Serving k s v around.line → ((b : Base) → At b routines.at (Known g v h t (conditioned number n) b) (f b)) → Comes code credits f v aims (R.raised around c n k s)
unfolding R.raised ◌>>◌
raise_piece {links = links} {code = code} {g = g} {v = v} {h = h} {t = t} {s = s} closed routines credits f around c number n k is small' few only served serving at =
    let front = Mark RaiseCondition ∷ BaseIn u0 ∷ subtract a2 return_register u0 ∷ small a7 30 ∷ [] in
    let behind = to_unit (size_of error_code) ++ (error_code ++ unit_begun) in
    let mine = routines.linked in
    let r = straight credits f v v (λ b. Known g v h t (raising_regs number n) b) (front_of front (Plain I.Ecall ∷ behind) mine) (omega arith) (λ b. (at b).pc)
    (λ b. let o = (at b).holds in let z = zero_is o.body in (
      refl,
      record {
        body = record { services = o.body.services; registers = o.body.registers; bytes = o.body.bytes; memory = o.body.memory };
        regs = (o.regs.0, (o.regs.1.0, (small_is _ 30 z (lit< tt), tt)));
      },
    )) in
    let at_call = back_of front (Plain I.Ecall ∷ behind) mine in
    let at_test = rest_of (Plain I.Ecall) behind at_call in
    let next' = λ (u : Unit {0}). looked >>= (λ x. R.unit_run around n (force x.activations c)) in
    onward closed r (λ f1 at1.
    comes_on k (act (raising c n) k s) next'
    (raised_here (before_closed k next' closed) (credits + 4) f1 c number n k few (first_of (Plain I.Ecall) behind at_call) is small' served serving at1
    (λ f2 serving2 at2.
    let s2 = with_world (raising c n s.world) s in
    let q = skip_taken 0 f2 Test.Equal a0 zero_register (JumpAhead (size_of error_code) ∷ []) (front_of (to_unit (size_of error_code)) (error_code ++ unit_begun) at_test) at2 (λ b. zero_equal _ _ (at2 b).holds.regs.0 (zero_is (at2 b).holds.body)) in
    subst (Comes code 0 f2 (raised_by c n v) _) (sym (unit_of_raise around c n k s2 only))
    (onward closed q (λ f3 at3. error_piece closed routines 3 f3 around n k small' (let i = mine.inside in omega (arith, i)) serving2
    (λ b. let o = at3 b in record { pc = o.pc ∙ ap (address b) (omega arith); holds = record { body = o.holds.body; regs = (o.holds.regs.1.0, tt) } }))))))

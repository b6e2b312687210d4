-- A condition is raised while a unit of the program is in force: service 30 finds it, and the run goes on at the unit's first instruction, with the
-- frame of the main procedure.
use Rattle.std.proofs.Common.{◌≡◌, ℕ, suc, ◌+◌, ◌-◌, ◌*◌, ◌%◌, ◌^◌, ◌<◌, ◌≤◌, List, [], ◌∷◌, ◌++◌, length, Some, true, false, refl, ap, ◌∙◌, arith, lit<, add-one}
use Rattle.std.specs.Prelude.{pos, cond, Option, ◌==◌}
use Rattle.std.proofs.lemmas.Bool.{lt-ltb}
use Rattle.std.proofs.lemmas.Bool.Decides.{nat_tests}
use Rattle.pli_language.specs.declared.condition.Condition.{Condition}
use Rattle.rv_meaning.specs.declared.instr.Instr.{Instr}
use Rattle.rv_meaning.specs.declared.instr.Instr.TheVariants as I
use Rattle.rv_meaning.specs.declared.instr.BranchTest.TheVariants as Test
use Rattle.rv_meaning.specs.Words.{word, sum}
use Rattle.rv_meaning.specs.Machine.{memory_size}
use Rattle.pli_meaning.specs.World.{raising}
use Rattle.pli_meaning.specs.StorageState.{State, with_world}
use Rattle.pli_meaning.specs.Control.{act}
use Rattle.pli_serving.specs.ServiceState as S
use Rattle.pli_serving.specs.ServiceState.{Services}
use Rattle.pli_serving.specs.Answers.{Answer, Done, Bad, acting}
use Rattle.pli_serving.specs.OnUnits as U
use Rattle.pli_serving.specs.Outcomes.{or_bad, bad_unless}
use Rattle.pli_serving.specs.ActsAndEnds as W
use Rattle.pli_coding.specs.Registers.{zero_register, return_register, a0, a1, a2, a7, u0, u1}
use Rattle.pli_coding.specs.Assembly.{RaiseCondition, CallTo, Mark, BaseIn, JumpAhead, Plain, size_of}
use Rattle.pli_coding.specs.Arithmetic.{condition_number, raised}
use Rattle.pli_coding.specs.Linking.{Links}
use Rattle.pli_coding.specs.Instructions.{add, small, subtract}
use Rattle.pli_coding.specs.Images.{error_code, unit_begun, to_unit}
use Rattle.run_steps.specs.Engine.{Base, address, call_at, most_code}
use Rattle.run_steps.specs.Items.{Linked, At}
use Rattle.run_steps.proofs.Items.{straight}
use Rattle.run_steps.specs.Bodies.{Ground, Known}
use Rattle.run_steps.proofs.Bodies.{zero_is}
use Rattle.run_steps.proofs.Jumps.{first_of, rest_of, front_of, back_of, skip_passed, ahead_piece, call_piece, hop}
use Rattle.run_steps.proofs.Jumps.{jump_register}
use Rattle.run_steps.specs.Temporaries.{nothing}
use Rattle.run_steps.specs.Calls.{Calling}
use Rattle.run_steps.proofs.Calls.{called, call_acts, call_pauses, acts, comes_act}
use Rattle.pli_headline.proofs.Serving.{Serving}
use Rattle.pli_headline.proofs.Raising.{Routines, small_is, raised_by, conditioned}
use Rattle.run_steps.specs.Reach.{Family, Reach, cost, Aims, Comes, Closed, reached}
use Rattle.run_steps.proofs.Reach.{reach_then, reached_holds, onward}
use Rattle.pli_headline.proofs.CalledBegun.{entry_with}
use Rattle.pli_headline.proofs.SystemUnits.{number_small, condition_is}

-- ---- service 30

-- the services while the raise waits for its unit
abbrev pub waiting_services : Condition → (code resume : ℕ) → Services → Services
waiting_services c code resume v =
    record (raised_by c code v) { waiting = Some (record { code = code; resume = resume; line = v.line }) }

unit_answer : (code : List Instr) (v : Services) (m : List ℕ) (c : Condition) (n resume k at : ℕ) (x : S.Activation) → n < 2 ^ 16 → U.force v.activations c ≡ Some (x, S.CodeUnit at) → v.world.acts ≤ k → k + 1 < 2 ^ 64 → U.raise_served (call_at code v m) (condition_number c) n resume ≡ Done (waiting_services c n resume v) m at x.frame
unit_answer code v m c n resume k at x small' found h fits =
    let t : W.is_code n ≡ true = lt-ltb n (2 ^ 16) small' in
    let call = call_at code v m in
    let answer : Condition → Option (S.Activation × S.OnUnit) → Answer = λ q o. U.raise_answered call (raised_by q n v) n resume o in
    let next : Condition → Answer = λ q. bad_unless (W.is_code n) (acting v (answer q (U.force v.activations q))) in
    ap (λ u. or_bad u next) (condition_is c) ∙ ap (λ u. cond u (acting v (answer c (U.force v.activations c))) Bad) t ∙ acts v k _ h fits ∙ ap (answer c) found

-- what is known when the call is made, and behind it
abbrev asking_regs : (number n resume : ℕ) → Base → List (ℕ × ℕ)
asking_regs number n resume b = (10, number) ∷ (11, n) ∷ (12, 4 * resume) ∷ (17, 30) ∷ (1, address b resume) ∷ []

abbrev found_regs : (at frame resume : ℕ) → Base → List (ℕ × ℕ)
found_regs at frame resume b = (10, at) ∷ (11, frame) ∷ (12, 4 * resume) ∷ (1, address b resume) ∷ []

abbrev begun_regs : (at frame resume : ℕ) → Base → List (ℕ × ℕ)
begun_regs at frame resume b = (10, b.at + frame) ∷ (6, b.at + at) ∷ (12, 4 * resume) ∷ (1, address b resume) ∷ []

-- ---- sums

resume_is : (b : Base) (x resume : ℕ) → resume ≤ most_code → x ≡ address b resume → (x + (2 ^ 32 - b.at)) % 2 ^ 32 ≡ 4 * resume
resume_is b x resume near e = let v = b.valid.1 in omega (arith, e, v, near)

begun_sum : (b : Base) (x y at : ℕ) → at < memory_size → x ≡ b.at → y ≡ at → sum x y ≡ b.at + at
begun_sum b x y at near e f = let v = b.valid.1 in omega (arith, e, f, v, near)

unit_sum : (b : Base) (x index : ℕ) → index ≤ most_code → x ≡ b.at + 4 * index → sum x (word (pos 0)) ≡ address b index
unit_sum b x index near e = let v = b.valid.1 in omega (arith, e, near, v)

not_zero : (x y at : ℕ) → 0 < at → x ≡ at → y ≡ 0 → (x == y) ≡ false
not_zero x y at some e f = grind (arith, nat_tests)

-- ---- to the unit

-- up to the call of the service
asked_piece : {links : Links} {code : List Instr} {i : ℕ} {g : Ground} {v : Services} {h t : ℕ → ℕ} (routines : Routines links code) (c : ℕ) (f : Family) (number n : ℕ) → number < 2 ^ 32 → n < 2 ^ 16 → Linked links code i (small a0 number ∷ small a1 n ∷ CallTo RaiseCondition ∷ []) → ((b : Base) → At b i (Known g v h t nothing b) (f b)) → Reach code c f v (c + 2 + 2 + 4) v (λ b w. At b (routines.at + 4) (Known g v h t (asking_regs number n (i + 2 + 2)) b) w)
asked_piece {links} {code} {i} {g} {v} {h} {t} routines c f number n few small' l there =
    let first = small a0 number ∷ small a1 n ∷ [] in
    let call = CallTo RaiseCondition ∷ [] in
    let inside = l.inside in
    let whole = routines.linked.inside in
    let long = routines.linked.small' in
    let r1 = straight c f v v (λ b w. Known g v h t (conditioned number n) b w) (front_of first call l) (omega arith) (λ b. (there b).pc)
    (λ b. let o = (there b).holds in let z = zero_is o.body in record {
      body = record { services = o.body.services; registers = o.body.registers; bytes = o.body.bytes; memory = o.body.memory };
      regs = (small_is _ number z few, (small_is _ n z (omega (arith, small')), tt));
    }) in
    let r2 = call_piece (c + 2) (c + 2 + 2) (reached r1) RaiseCondition routines.at (omega arith) routines.condition (omega (arith, whole, long)) (record { reserved_stay = λ y u. refl; known_stay = λ b y u q. q; set = λ y u. refl }) (back_of first call l) (reached_holds r1) in
    let front = Mark RaiseCondition ∷ BaseIn u0 ∷ subtract a2 return_register u0 ∷ small a7 30 ∷ [] in
    let behind = Plain I.Ecall ∷ (to_unit (size_of error_code) ++ (error_code ++ unit_begun)) in
    let r3 = straight (c + 2 + 2) (reached r2) v v (λ b w. Known g v h t (asking_regs number n (i + 2 + 2)) b w) (front_of front behind routines.linked) (omega arith) (λ b. (reached_holds r2 b).pc)
    (λ b. let o = (reached_holds r2 b).holds in let z = zero_is o.body in (
      refl,
      record {
        body = record { services = o.body.services; registers = o.body.registers; bytes = o.body.bytes; memory = o.body.memory };
        regs = (o.regs.1.0, (o.regs.1.1.0, (resume_is b _ (i + 2 + 2) (omega (arith, inside, long)) o.regs.0, (small_is _ 30 z (lit< tt), (o.regs.0, tt)))));
      },
    )) in
    reach_then r1 (reach_then r2 r3)

-- behind it, up to the unit
found_piece : {links : Links} {code : List Instr} {g : Ground} {v : Services} {h t : ℕ → ℕ} (routines : Routines links code) (f : Family) (index frame resume : ℕ) → 0 < index → index < length code → frame < memory_size → ((b : Base) → At b (routines.at + 4 + 1) (Known g v h t (found_regs (4 * index) frame resume) b) (f b)) → Reach code 0 f v 19 v (λ b w. At b index (Known g v h t (entry_with frame (4 * resume) (λ b'. address b' resume)) b) w)
found_piece {links} {code} {g} {v} {h} {t} routines f index frame resume some inside room there =
    let front = Mark RaiseCondition ∷ BaseIn u0 ∷ subtract a2 return_register u0 ∷ small a7 30 ∷ [] in
    let tested = to_unit (size_of error_code) in
    let behind = tested ++ (error_code ++ unit_begun) in
    let at_test = rest_of (Plain I.Ecall) behind (back_of front (Plain I.Ecall ∷ behind) routines.linked) in
    let lt = front_of tested (error_code ++ unit_begun) at_test in
    let lb = back_of error_code unit_begun (back_of tested (error_code ++ unit_begun) at_test) in
    let whole = routines.linked.inside in
    let long = routines.linked.small' in
    let j = routines.at + 4 + 1 in
    let r1 = skip_passed 0 f Test.Equal a0 zero_register (JumpAhead (size_of error_code) ∷ []) lt there (λ b. not_zero _ _ (4 * index) (omega (arith, some)) (there b).holds.regs.0 (zero_is (there b).holds.body)) in
    let r2 = ahead_piece (0 + 1) (reached r1) (size_of error_code) (omega (arith, whole)) (record { reserved_stay = λ y u. refl; known_stay = λ b y u q. q; set = λ y u. refl }) (rest_of _ (JumpAhead (size_of error_code) ∷ []) lt) (reached_holds r1) in
    let there' : j + 1 + 13 ≡ j + 3 + 11 = omega arith in
    let adds = BaseIn u0 ∷ add u1 u0 a0 ∷ add a0 u0 a1 ∷ [] in
    let jump = Plain (I.JumpRegister zero_register u1 (pos 0)) ∷ [] in
    let r3 = straight (0 + 1 + (2 + size_of error_code)) (reached r2) v v (λ b w. Known g v h t (begun_regs (4 * index) frame resume) b w) (front_of adds jump lb) (omega arith) (λ b. (reached_holds r2 b).pc ∙ ap (address b) there')
    (λ b. let o = (reached_holds r2 b).holds in (
      refl,
      record {
        body = record { services = o.body.services; registers = o.body.registers; bytes = o.body.bytes; memory = o.body.memory };
        regs = (begun_sum b _ _ frame room refl o.regs.1.0, (begun_sum b _ _ (4 * index) (omega (arith, inside, long)) refl o.regs.0, (o.regs.1.1.0, (o.regs.1.1.1.0, tt))));
      },
    )) in
    let lj = back_of adds jump lb in
    let r4 = hop code 18 19 (reached r3) v (λ b w. At b index (Known g v h t (entry_with frame (4 * resume) (λ b'. address b' resume)) b) w) (omega arith)
    (λ b.
    let o = (reached_holds r3 b).holds in
    let ji = lj.inside in (
      _,
      jump_register code b (j + 3 + 11 + 4) index zero_register u1 (pos 0) (reached r3 b) (omega (arith, ji, long)) (reached_holds r3 b).pc lj.has.0.0 (unit_sum b _ index (omega (arith, inside, long)) o.regs.1.0),
      record { pc = refl; holds = record { body = record { services = o.body.services; registers = o.body.registers; bytes = o.body.bytes; memory = o.body.memory }; regs = (o.regs.0, (o.regs.1.1.0, (o.regs.1.1.1.0, tt))) } },
    )) in
    reach_then r1 (reach_then r2 (reach_then r3 r4))

-- the raise, an act, and on to the unit
pub unit_begins : {links : Links} {code : List Instr} {i : ℕ} {g : Ground} {v : Services} {h t : ℕ → ℕ} {s : State} {aims : Aims (Unit {0})} (closed : Closed code aims) (routines : Routines links code) (credits : ℕ) (f : Family) (c : Condition) (n k line index : ℕ) (x : S.Activation) → n < 2 ^ 16 → credits + 8 < cost code → Linked links code i (raised c n) → U.force v.activations c ≡ Some (x, S.CodeUnit (4 * index)) → 0 < index → index < length code → x.frame < memory_size → Serving k s v line → ((b : Base) → At b i (Known g v h t nothing b) (f b)) → ((f' : Family) → s.world.acts < k → ((b : Base) → At b index (Known g (waiting_services c n (4 * (i + 2 + 2)) v) h t (entry_with x.frame (4 * (i + 2 + 2)) (λ b'. address b' (i + 2 + 2))) b) (f' b)) → aims.done 19 f' (waiting_services c n (4 * (i + 2 + 2)) v) tt (with_world (raising c n s.world) s)) → Comes code credits f v aims (act (raising c n) k s)
unit_begins {links} {code} {i} {g} {v} {h} {t} {s} closed routines credits f c n k line index x small' few l found some inside room serving at goal =
    let resume = i + 2 + 2 in
    let v' = waiting_services c n (4 * resume) v in
    onward closed (asked_piece routines credits f (condition_number c) n (number_small c) small' l at)
    (λ f1 at1.
    let front = Mark RaiseCondition ∷ BaseIn u0 ∷ subtract a2 return_register u0 ∷ small a7 30 ∷ [] in
    let behind = to_unit (size_of error_code) ++ (error_code ++ unit_begun) in
    let calling : Calling links code (routines.at + 4) f1 (λ b. Done v' (f1 b).machine.memory (4 * index) x.frame) = record {
      linked = first_of (Plain I.Ecall) behind (back_of front (Plain I.Ecall ∷ behind) routines.linked);
      pc = λ b. (at1 b).pc;
      answers = λ b.
          let o = (at1 b).holds in
          called code (f1 b) v 30 (condition_number c) n (4 * resume) _ _ (λ call x0 x1 x2 x3 x4. U.raise_served call x0 x1 x2) o.body.services o.regs.1.1.1.0 o.regs.0 o.regs.1.0 o.regs.1.1.0 refl refl (λ call y. refl)
          ∙ unit_answer code v (f1 b).machine.memory c n (4 * resume) k (4 * index) x small' found serving.allowed serving.fits;
    } in
    let more : v'.world.acts ≡ suc v.world.acts = add-one v.world.acts in
    let paid : credits + 2 + 2 + 4 < cost code = omega (arith, few) in
    let pauses = call_pauses (credits + 2 + 2 + 4) f1 v v' (λ b. (f1 b).machine.memory) (λ b. 4 * index) (λ b. x.frame) paid serving.running (λ b. (at1 b).holds.body.services) more calling in
    let r = call_acts (credits + 2 + 2 + 4) 0 f1 v v' (λ b. (f1 b).machine.memory) (λ b. 4 * index) (λ b. x.frame) (λ b. Known g v' h t (found_regs (4 * index) x.frame resume) b) paid more calling
    (λ b. let o = (at1 b).holds in record { body = record { services = refl; registers = o.body.registers; bytes = o.body.bytes; memory = o.body.memory }; regs = (refl, (refl, (o.regs.1.1.0, (o.regs.1.1.1.1.0, tt)))) }) in
    comes_act (raising c n) k s serving.world pauses
    (λ below.
    let q = reach_then r (found_piece routines (reached r) index x.frame resume some inside room (reached_holds r)) in
    closed.done q tt _ (goal (reached q) below (reached_holds q))))

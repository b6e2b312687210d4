-- The elements of one array are stored in those of another: the record of the first is written and service 40 takes its elements onto the
-- stack; then the record of the second is written over it, and the service stores them there.
use Rattle.std.proofs.Common.{◌≡◌, ℕ, ◌+◌, ◌-◌, ◌*◌, ◌^◌, ◌<◌, ◌≤◌, List, [], ◌∷◌, ◌++◌, length, true, refl, sym, ap, ◌∙◌, subst, arith}
use Rattle.std.specs.Prelude.{pos, ◌==◌}
use Rattle.rv_meaning.specs.declared.instr.Instr.{Instr}
use Rattle.rv_meaning.specs.declared.instr.Instr.TheVariants as I
use Rattle.rv_meaning.specs.declared.instr.BranchTest.TheVariants as Test
use Rattle.rv_meaning.specs.Memory.{load}
use Rattle.rv_meaning.specs.Machine.{memory_size}
use Rattle.pli_meaning.specs.Control.{Flow}
use Rattle.pli_serving.specs.ServiceState.{Services, Entry}
use Rattle.pli_serving.specs.Outcomes.{pushed}
use Rattle.pli_serving.specs.Answers.{Done}
use Rattle.pli_serving.specs.AggregateServices as W
use Rattle.pli_coding.specs.Registers.{zero_register, a1, a2, a3, a4, a7}
use Rattle.pli_coding.specs.Assembly.{Plain, JumpTo, RaiseError, size_of}
use Rattle.pli_coding.specs.Instructions.{number, small, service, status_tested, tested_service}
use Rattle.pli_coding.specs.Environments.{Taken}
use Rattle.pli_coding.specs.Linking.{Links}
use Rattle.run_steps.specs.Engine.{Base, address, call_at}
use Rattle.run_steps.proofs.Linking.{size_append}
use Rattle.run_steps.specs.Items.{Linked, At}
use Rattle.run_steps.proofs.Items.{straight}
use Rattle.run_steps.proofs.Jumps.{front_of, back_of, skip_taken}
use Rattle.pli_headline.proofs.Acts.{word_is, word_fits}
use Rattle.pli_headline.proofs.Raising.{small_is}
use Rattle.run_steps.specs.Bodies.{Ground, Known, PlaceFrom, reserved_are}
use Rattle.run_steps.proofs.Bodies.{zero_is, constant_piece}
use Rattle.run_steps.specs.Temporaries.{Temporaries, Stays, nothing}
use Rattle.run_steps.proofs.Temporaries.{stays_then}
use Rattle.run_steps.specs.Calls.{Calling}
use Rattle.run_steps.proofs.Calls.{called, call_done}
use Rattle.run_steps.specs.Reaching.{Reaches}
use Rattle.pli_headline.proofs.TextCalls.{two}
use Rattle.pli_headline.proofs.ElementsCode.{given_by}
use Rattle.pli_headline.proofs.ElementsPieces.{recorded, record_stays, record_piece, given_piece}
use Rattle.pli_headline.proofs.CopiesCode.{Place, record_at, asked_by, copying}
use Rattle.run_steps.specs.Reach.{Family, Aims, Comes, Closed}
use Rattle.run_steps.proofs.Reach.{onward}

-- an array is known by its frame, which has its own offset, and in which its name stands
pub record IsReached (g : Ground) (base : ℕ) (p : Place) : Type 0 where
  pub few : p.number < 2 ^ 24
  pub reaches : Reaches p.here p.level g base
  pub at36 : PlaceFrom base (pos 36) (base + 36)
  pub near : base + p.place < 2 ^ 24
  pub own : (t : ℕ → ℕ) (b : Base) (m : List ℕ) → g.memory t b m → load 4 m (base + 36) ≡ base

-- so is the running frame
pub record KnownFrame (g : Ground) : Type 0 where
  pub at36 : PlaceFrom g.frame (pos 36) (g.frame + 36)
  pub own : (t : ℕ → ℕ) (b : Base) (m : List ℕ) → g.memory t b m → load 4 m (g.frame + 36) ≡ g.frame

-- the service is called about an array
aggregate_piece : {R : Type 0} {links : Links} {code : List Instr} {i : ℕ} {g : Ground} (g' : Ground) {v : Services} (v' : Services) {h t : ℕ → ℕ} {aims : Aims R} {flow : Flow R} (closed : Closed code aims) (temps : Temporaries g) (f : Family) (taken : Taken) (p : Place) (base mode : ℕ) (change : List ℕ → List ℕ) → taken.words + 4 ≤ g.words → mode < 2 → v.world.acts ≤ v'.world.acts → IsReached g base p → KnownFrame g → ((b : Base) (h' : ℕ → ℕ) → reserved_are b g h' ≡ reserved_are b g' h') → ((b : Base) (m : List ℕ) → length m ≡ memory_size → g.memory (recorded t taken.words (base + p.place) p.number) b m → W.aggregate_served (call_at code v m) (g.frame - 4 * (taken.words + 4)) 0 1 0 mode ≡ Done v' (change m) (g.frame - 4 * (taken.words + 4)) 0) → ((b : Base) (m : List ℕ) → length m ≡ memory_size → g.memory (recorded t taken.words (base + p.place) p.number) b m → (length (change m) ≡ memory_size) × g'.memory (recorded t taken.words (base + p.place) p.number) b (change m)) → Linked links code i (record_at taken p) → Linked links code (i + size_of (record_at taken p)) (asked_by taken mode) → Linked links code (i + size_of (record_at taken p) + size_of (asked_by taken mode)) (service 40) → ((b : Base) → At b i (Known g v h t nothing b) (f b)) → ((f' : Family) → ((b : Base) → At b (i + size_of (record_at taken p) + size_of (asked_by taken mode) + 2) (Known g' v' h (recorded t taken.words (base + p.place) p.number) (two (λ b'. g.frame - 4 * (taken.words + 4)) (λ b'. 0)) b) (f' b)) → Comes code (i + size_of (record_at taken p) + size_of (asked_by taken mode) + 2) f' v' aims flow) → Comes code i f v aims flow
aggregate_piece {code = code} {i = i} {g = g} g' {v = v} v' {h = h} {t = t} {aims = aims} {flow = flow} closed temps f taken p base mode change room low more known frame same answers changed l0 l1 l2 at next' =
    let t2 = recorded t taken.words (base + p.place) p.number in
    let r = g.frame - 4 * (taken.words + 4) in
    let q0 = record_at taken p in
    let q1 = given_by taken in
    let q2 = number a1 0 in
    let q3 = number a2 1 in
    let q4 = number a3 0 in
    let q5 = small a4 mode ∷ [] in
    let q6 = small a7 40 ∷ [] in
    let q7 = Plain I.Ecall ∷ [] in
    let m1 = back_of q1 (q2 ++ (q3 ++ (q4 ++ q5))) l1 in
    let m2 = back_of q2 (q3 ++ (q4 ++ q5)) m1 in
    let m3 = back_of q3 (q4 ++ q5) m2 in
    let m4 = back_of q4 q5 m3 in
    let e1 = size_append q1 (q2 ++ (q3 ++ (q4 ++ q5))) in
    let e2 = size_append q2 (q3 ++ (q4 ++ q5)) in
    let e3 = size_append q3 (q4 ++ q5) in
    let e4 = size_append q4 q5 in
    let start = i + size_of q0 + size_of q1 + size_of q2 + size_of q3 + size_of q4 in
    let asked = i + size_of q0 + size_of (asked_by taken mode) in
    let there : start + 1 ≡ asked = omega (arith, e1, e2, e3, e4) in
    let end : asked + 1 + 1 ≡ asked + 2 = omega arith in
    record_piece closed temps f taken p.here p.level base p.place p.number room known.few known.reaches known.at36 known.near known.own l0 at (λ f1 at1.
    given_piece closed f1 taken room frame.at36 frame.own (front_of q1 (q2 ++ (q3 ++ (q4 ++ q5))) l1) at1 (λ f2 at2.
    onward closed (constant_piece (i + size_of q0 + size_of q1) f2 a1 (pos 0) (word_fits 0 (omega arith)) (record { reserved_stay = λ y u. refl; known_stay = λ b y u o. o; set = λ y u. refl }) (front_of q2 (q3 ++ (q4 ++ q5)) m1) at2) (λ f3 at3.
    onward closed (constant_piece (i + size_of q0 + size_of q1 + size_of q2) f3 a2 (pos 1) (word_fits 1 (omega arith)) (record { reserved_stay = λ y u. refl; known_stay = λ b y u o. o; set = λ y u. refl }) (front_of q3 (q4 ++ q5) m2) at3) (λ f4 at4.
    onward closed (constant_piece (i + size_of q0 + size_of q1 + size_of q2 + size_of q3) f4 a3 (pos 0) (word_fits 0 (omega arith)) (record { reserved_stay = λ y u. refl; known_stay = λ b y u o. o; set = λ y u. refl }) (front_of q4 q5 m3) at4) (λ f5 at5.
    let moded = straight start f5 v v (λ b. Known g v h t2 (λ b'. (10, r) ∷ (11, 0) ∷ (12, 1) ∷ (13, 0) ∷ (14, mode) ∷ []) b) m4 (omega arith) (λ b. (at5 b).pc)
    (λ b. let o = (at5 b).holds in let z = zero_is o.body in record {
      body = record { services = o.body.services; registers = o.body.registers; bytes = o.body.bytes; memory = o.body.memory };
      regs = (o.regs.1.1.1.0, (o.regs.1.1.0 ∙ word_is 0 (omega arith), (o.regs.1.0 ∙ word_is 1 (omega arith), (o.regs.0 ∙ word_is 0 (omega arith), (small_is _ mode z (omega (arith, low)), tt)))));
    }) in
    onward closed moded (λ f6 at6.
    let numbered = straight asked f6 v v (λ b. Known g v h t2 (λ b'. (10, r) ∷ (11, 0) ∷ (12, 1) ∷ (13, 0) ∷ (14, mode) ∷ (17, 40) ∷ []) b) (front_of q6 q7 l2) (omega arith) (λ b. (at6 b).pc ∙ ap (address b) there)
    (λ b. let o = (at6 b).holds in let z = zero_is o.body in record {
      body = record { services = o.body.services; registers = o.body.registers; bytes = o.body.bytes; memory = o.body.memory };
      regs = (o.regs.0, (o.regs.1.0, (o.regs.1.1.0, (o.regs.1.1.1.0, (o.regs.1.1.1.1.0, (small_is _ 40 z (omega arith), tt))))));
    }) in
    subst (λ u. Comes code u f6 v aims flow) (sym there)
    (onward closed numbered (λ f7 at7.
    let calling : Calling _ code (asked + 1) f7 (λ b. Done v' (change (f7 b).machine.memory) r 0) = record {
      linked = back_of q6 q7 l2;
      pc = λ b. (at7 b).pc;
      answers = λ b.
          let o = (at7 b).holds in
          called code (f7 b) v 40 r 0 1 0 mode (λ c x0 x1 x2 x3 x4. W.aggregate_served c x0 x1 x2 x3 x4) o.body.services o.regs.1.1.1.1.1.0 o.regs.0 o.regs.1.0 o.regs.1.1.0 o.regs.1.1.1.0 o.regs.1.1.1.1.0 (λ c u. refl)
          ∙ answers b (f7 b).machine.memory o.body.bytes o.body.memory;
    } in
    let done = call_done (asked + 1) f7 v v' (λ b. change (f7 b).machine.memory) (λ b. r) (λ b. 0) (λ b. Known g' v' h t2 (two (λ b'. r) (λ b'. 0)) b) more calling
    (λ b. let o = (at7 b).holds.body in let c = changed b (f7 b).machine.memory o.bytes o.memory in record { body = record { services = refl; registers = o.registers ∙ same b h; bytes = c.0; memory = c.1 }; regs = (refl, (refl, tt)) }) in
    onward closed done (λ f8 at8.
    subst (λ u. Comes code u f8 v' aims flow) (sym end)
    (next' f8 (λ b. record { pc = (at8 b).pc ∙ ap (address b) end; holds = (at8 b).holds })))))))))))

is_none : (y z : ℕ) → y ≡ 0 → z ≡ 0 → (y == z) ≡ true
is_none y z e e' = ap (λ u. u == z) e ∙ ap (λ u. 0 == u) e'

-- the whole
pub copying_piece : {R : Type 0} {links : Links} {code : List Instr} {i : ℕ} {g : Ground} (g' : Ground) {v : Services} {h t : ℕ → ℕ} {aims : Aims R} {flow : Flow R} (closed : Closed code aims) (temps : Temporaries g) (f : Family) (taken : Taken) (entry : Entry) (source target : Place) (base base' : ℕ) (change : List ℕ → List ℕ) → taken.words + 4 ≤ g.words → IsReached g base source → IsReached g base' target → KnownFrame g → ((b : Base) (h' : ℕ → ℕ) → reserved_are b g h' ≡ reserved_are b g' h') → ((t' : ℕ → ℕ) (b : Base) (m : List ℕ) → length m ≡ memory_size → g.memory (recorded t' taken.words (base + source.place) source.number) b m → W.aggregate_served (call_at code v m) (g.frame - 4 * (taken.words + 4)) 0 1 0 0 ≡ Done (pushed entry v) m (g.frame - 4 * (taken.words + 4)) 0) → ((t' : ℕ → ℕ) (b : Base) (m : List ℕ) → length m ≡ memory_size → g.memory (recorded t' taken.words (base' + target.place) target.number) b m → W.aggregate_served (call_at code (pushed entry v) m) (g.frame - 4 * (taken.words + 4)) 0 1 0 1 ≡ Done v (change m) (g.frame - 4 * (taken.words + 4)) 0) → ((t' : ℕ → ℕ) (b : Base) (m : List ℕ) → length m ≡ memory_size → g.memory t' b m → (length (change m) ≡ memory_size) × g'.memory t' b (change m)) → Linked links code i (copying taken source target) → ((b : Base) → At b i (Known g v h t nothing b) (f b)) → ((f' : Family) (t' : ℕ → ℕ) → Stays taken h t h t' → ((b : Base) → At b (i + size_of (copying taken source target)) (Known g' v h t' nothing b) (f' b)) → Comes code (i + size_of (copying taken source target)) f' v aims flow) → Comes code i f v aims flow
copying_piece {code = code} {i = i} {g = g} g' {v = v} {h = h} {t = t} {aims = aims} {flow = flow} closed temps f taken entry source target base base' change room known known' frame same takes puts changed l at next' =
    let t1 = recorded t taken.words (base + source.place) source.number in
    let t2 = recorded t1 taken.words (base' + target.place) target.number in
    let q0 = record_at taken source in
    let q1 = asked_by taken 0 in
    let q2 = service 40 in
    let q3 = record_at taken target in
    let q4 = asked_by taken 1 in
    let q5 = tested_service 40 in
    let l1 = back_of q0 (q1 ++ (q2 ++ (q3 ++ (q4 ++ q5)))) l in
    let l2 = back_of q1 (q2 ++ (q3 ++ (q4 ++ q5))) l1 in
    let l3 = back_of q2 (q3 ++ (q4 ++ q5)) l2 in
    let l4 = back_of q3 (q4 ++ q5) l3 in
    let l5 = back_of q4 q5 l4 in
    let l6 = back_of (service 40) status_tested l5 in
    let e0 = size_append q0 (q1 ++ (q2 ++ (q3 ++ (q4 ++ q5)))) in
    let e1 = size_append q1 (q2 ++ (q3 ++ (q4 ++ q5))) in
    let e2 = size_append q3 (q4 ++ q5) in
    let e3 = size_append q4 q5 in
    let second = i + size_of q0 + size_of q1 + 2 in
    let third = second + size_of q3 + size_of q4 + 2 in
    let there : third + 3 ≡ i + size_of (copying taken source target) = omega (arith, e0, e1, e2, e3) in
    aggregate_piece g (pushed entry v) closed temps f taken source base 0 (λ m. m) room (omega arith) (omega arith) known frame (λ b h'. refl) (λ b m long held. takes t b m long held) (λ b m long held. (long, held)) (front_of q0 (q1 ++ (q2 ++ (q3 ++ (q4 ++ q5)))) l) (front_of q1 (q2 ++ (q3 ++ (q4 ++ q5))) l1) (front_of q2 (q3 ++ (q4 ++ q5)) l2) at (λ f1 at1.
    aggregate_piece g' v closed temps f1 taken target base' 1 change room (omega arith) (omega arith) known' frame same (λ b m long held. puts t1 b m long held) (λ b m long held. changed t2 b m long held) (front_of q3 (q4 ++ q5) l3) (front_of q4 q5 l4) (front_of (service 40) status_tested l5) (λ b. record { pc = (at1 b).pc; holds = record { body = (at1 b).holds.body; regs = tt } }) (λ f2 at2.
    onward closed (skip_taken third f2 Test.Equal a1 zero_register (JumpTo RaiseError ∷ []) l6 at2 (λ b. is_none _ _ (at2 b).holds.regs.1.0 (zero_is (at2 b).holds.body))) (λ f3 at3.
    subst (λ u. Comes code u f3 v aims flow) (sym there)
    (next' f3 t2 (stays_then (record_stays taken h t (base + source.place) source.number) (record_stays taken h t1 (base' + target.place) target.number))
    (λ b. record { pc = (at3 b).pc ∙ ap (address b) there; holds = record { body = (at3 b).holds.body; regs = tt } })))))

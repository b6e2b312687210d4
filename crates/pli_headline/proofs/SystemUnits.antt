-- ON with SYSTEM, which leaves a condition of the newest block to the system, and REVERT, which takes its unit back.
use Rattle.std.proofs.Common.{◌≡◌, ℕ, ◌+◌, ◌^◌, ◌<◌, List, [], ◌∷◌, ◌++◌, length, Some, Bool, true, false, refl, sym, ap, ◌∙◌, subst, arith, lit<, ◌⊎◌, inl}
use Rattle.std.specs.Prelude.{cond, ◌==◌}
use Rattle.pli_language.specs.declared.condition.Condition.{Condition}
use Rattle.pli_language.specs.declared.condition.Condition.TheVariants as C
use Rattle.rv_meaning.specs.declared.instr.Instr.{Instr}
use Rattle.pli_typing.specs.TypedTree as Y
use Rattle.pli_meaning.specs.World.{counted}
use Rattle.pli_meaning.specs.StorageState.{State, OnUnit, SystemUnit, Activation, Living, with_world, with_activations, same_condition, without_unit, established, reverted, newest_height, ancestor, binding_of, binding_in}
use Rattle.pli_meaning.specs.Control.{Meaning, act, stored, ◌>>◌}
use Rattle.pli_meaning.specs.Raising.{Around}
use Rattle.pli_meaning.specs.Executing as M
use Rattle.pli_serving.specs.ServiceState as S
use Rattle.pli_serving.specs.ServiceState.{Services}
use Rattle.pli_serving.specs.Answers.{Answer, Done}
use Rattle.pli_serving.specs.Outcomes.{or_bad}
use Rattle.pli_serving.specs.OnUnits as U
use Rattle.pli_coding.specs.Registers.{a1}
use Rattle.pli_coding.specs.Assembly.{size_of}
use Rattle.pli_coding.specs.Instructions.{small, service}
use Rattle.pli_coding.specs.Arithmetic.{condition_number}
use Rattle.pli_coding.specs.Allocating.{act_code}
use Rattle.pli_coding.specs.Environments.{Environment}
use Rattle.pli_coding.specs.Statements.{condition_given, stmt_code}
use Rattle.pli_coding.specs.Linking.{Links}
use Rattle.pli_headline.specs.ProvedSoFar.{Names, Types}
use Rattle.pli_headline.proofs.HeldPlaces.{PlacesHeld}
use Rattle.pli_headline.proofs.Storages.{storage, Storage, Serials}
use Rattle.run_steps.specs.Engine.{Base, address, call_at}
use Rattle.run_steps.proofs.Linking.{size_append}
use Rattle.run_steps.proofs.Items.{straight}
use Rattle.run_steps.specs.Bodies.{Known}
use Rattle.run_steps.proofs.Bodies.{zero_is}
use Rattle.run_steps.proofs.Jumps.{front_of, back_of}
use Rattle.run_steps.proofs.Temporaries.{stays_same}
use Rattle.pli_headline.proofs.Activations.{may_have_unit, AllUnits, Nested, frames_of, levels_of}
use Rattle.pli_headline.proofs.Asides.{Aside, StandAside, asides_seen}
use Rattle.pli_headline.proofs.Entered.{Frames, kinds_of, IsKnown, AreKnown, UnitsKnown, less_known}
use Rattle.pli_headline.proofs.Serving.{Serving}
use Rattle.pli_headline.proofs.Raising.{small_is}
use Rattle.pli_headline.proofs.Acts.{acted, act_piece}
use Rattle.pli_headline.proofs.TextCalls.{three, asking_piece}
use Rattle.pli_headline.proofs.Statements.{Block, AllHold, counted_all, Does}
use Rattle.run_steps.proofs.Reach.{before_closed, comes_on, onward}
use Rattle.pli_headline.proofs.Scalars.{Values}

-- ---- units that change: with true the condition gets this one, and with false none

abbrev pub changed : {A : Type 0} → Bool → A → Condition → List (Condition × A) → List (Condition × A)
changed true u c ps = (c, u) ∷ without_unit c ps
changed false u c ps = without_unit c ps

abbrev pub newest_changed : Bool → OnUnit → Condition → List Activation → List Activation
newest_changed q u c [] = []
newest_changed q u c (a ∷ as') = record a { units = changed q u c a.units } ∷ as'

abbrev pub newest_served : Bool → S.OnUnit → Condition → List S.Activation → List S.Activation
newest_served q u c [] = []
newest_served q u c (x ∷ xs) = record x { units = changed q u c x.units } ∷ xs

without_by : {A : Type 0} (q : Bool) (u : A) (p : Condition × A) (ps rest : List (Condition × A)) → (p.1 ≡ u) ⊎ (may_have_unit p.0 ≡ true) → AllUnits u ps → AllUnits u rest → AllUnits u (cond q ps (p ∷ rest))
without_by true u p ps rest h all less = all
without_by false u p ps rest h all less = (h, less)

without_all : {A : Type 0} (u : A) (c : Condition) (ps : List (Condition × A)) → AllUnits u ps → AllUnits u (without_unit c ps)
without_all u c [] h = tt
without_all u c (p ∷ ps) h = without_by (same_condition p.0 c) u p ps (without_unit c ps) h.0 h.1 (without_all u c ps h.1)

changed_all_units : {A : Type 0} (q : Bool) (system u : A) (c : Condition) (ps : List (Condition × A)) → (u ≡ system) ⊎ (may_have_unit c ≡ true) → AllUnits system ps → AllUnits system (changed q u c ps)
changed_all_units true system u c ps new h = (new, without_all system c ps h)
changed_all_units false system u c ps new h = without_all system c ps h

-- a unit that an activation may get: one of the program is for a condition that may have one, and known
abbrev pub NewestKnown : (known : ℕ → Y.Block → ℕ → Type 0) → OnUnit → S.OnUnit → List Activation → List S.Activation → Type 0
NewestKnown known u w (a ∷ as') (x ∷ xs) = IsKnown known a.height x.frame u w
NewestKnown known u w _ _ = Unit {0}

pub record IsNew (c : Condition) (u : OnUnit) (w : S.OnUnit) : Type 0 where
  pub meant : (u ≡ SystemUnit) ⊎ (may_have_unit c ≡ true)
  pub served : (w ≡ S.SystemUnit) ⊎ (may_have_unit c ≡ true)

pub system_new : (c : Condition) → IsNew c SystemUnit S.SystemUnit
system_new c = record { meant = inl refl; served = inl refl }

pub system_known : (known : ℕ → Y.Block → ℕ → Type 0) (as' : List Activation) (xs : List S.Activation) → NewestKnown known SystemUnit S.SystemUnit as' xs
system_known known [] xs = tt
system_known known (a ∷ as') [] = tt
system_known known (a ∷ as') (x ∷ xs) = tt

changed_nested : (q : Bool) (u : OnUnit) (w : S.OnUnit) (c : Condition) (as' : List Activation) (xs : List S.Activation) → IsNew c u w → Nested as' xs → Nested (newest_changed q u c as') (newest_served q w c xs)
changed_nested q u w c [] [] new h = h
changed_nested q u w c [] (x ∷ xs) new h = absurd h
changed_nested q u w c (a ∷ as') [] new h = absurd h
changed_nested q u w c (a ∷ as') (x ∷ xs) new h = (
  record { height = h.0.height; first = h.0.first; inside = h.0.inside; direct = h.0.direct; oncode = h.0.oncode; units = changed_all_units q SystemUnit u c a.units new.meant h.0.units },
  (record { kind = h.1.0.kind; units = changed_all_units q S.SystemUnit w c x.units new.served h.1.0.units }, h.1.1),
)

changed_levels : (q : Bool) (u : OnUnit) (c : Condition) (as' : List Activation) → levels_of (newest_changed q u c as') ≡ levels_of as'
changed_levels q u c [] = refl
changed_levels q u c (a ∷ as') = refl

changed_known : (known : Condition → ℕ → Y.Block → ℕ → Type 0) (height frame : ℕ) (q : Bool) (u : OnUnit) (w : S.OnUnit) (c : Condition) (ps : List (Condition × OnUnit)) (qs : List (Condition × S.OnUnit)) → IsKnown (known c) height frame u w → AreKnown known height frame ps qs → AreKnown known height frame (changed q u c ps) (changed q w c qs)
changed_known known height frame true u w c ps qs new all = ((refl, new), less_known known height frame c ps qs all)
changed_known known height frame false u w c ps qs new all = less_known known height frame c ps qs all

changed_units : (known : Condition → ℕ → Y.Block → ℕ → Type 0) (q : Bool) (u : OnUnit) (w : S.OnUnit) (c : Condition) (as' : List Activation) (xs : List S.Activation) → NewestKnown (known c) u w as' xs → UnitsKnown known as' xs → UnitsKnown known (newest_changed q u c as') (newest_served q w c xs)
changed_units known q u w c [] [] new all = tt
changed_units known q u w c [] (x ∷ xs) new all = absurd all
changed_units known q u w c (a ∷ as') [] new all = absurd all
changed_units known q u w c (a ∷ as') (x ∷ xs) new all = (changed_known known a.height x.frame q u w c a.units x.units new all.0, all.1)

-- variables stand for what they stood for
binding_by : (here there : Bool) (level : ℕ) (a a' : Activation) (as' : List Activation) (j : ℕ) → a'.bindings ≡ a.bindings → binding_in (cond here (cond there (Some a') (ancestor as' a.parent level)) (ancestor as' a.height level)) j ≡ binding_in (cond here (cond there (Some a) (ancestor as' a.parent level)) (ancestor as' a.height level)) j
binding_by true true level a a' as' j e = ap (λ bs. binding_of bs j) e
binding_by true false level a a' as' j e = refl
binding_by false there level a a' as' j e = refl

binding_kept : (q : Bool) (u : OnUnit) (c : Condition) (as' : List Activation) (level j : ℕ) → binding_in (ancestor (newest_changed q u c as') (newest_height (newest_changed q u c as')) level) j ≡ binding_in (ancestor as' (newest_height as') level) j
binding_kept q u c [] level j = refl
binding_kept q u c (a ∷ as') level j =
    binding_by (a.height == a.height) (a.level == level) level a (record a { units = changed q u c a.units }) as' j refl

-- ---- the state and the services behind it

abbrev pub changed_state : Bool → OnUnit → Condition → State → State
changed_state q u c s = with_world s.world (with_activations (newest_changed q u c s.activations) s)

abbrev pub changed_services : Bool → S.OnUnit → Condition → Services → Services
changed_services q u c v = record v { activations = newest_served q u c v.activations }

changed_places : (q : Bool) (u : S.OnUnit) (c : Condition) (n : ℕ) (xs : List S.Activation) → PlacesHeld n xs → PlacesHeld n (newest_served q u c xs)
changed_places q u c n [] held = held
changed_places q u c n (x ∷ []) held = held
changed_places q u c n (x ∷ y ∷ xs) held = held

pub changed_serving : {k : ℕ} {s : State} {v : Services} {line : ℕ} (q : Bool) (u : OnUnit) (w : S.OnUnit) (c : Condition) → IsNew c u w → Serving k s v line → Serving k (changed_state q u c s) (changed_services q w c v) line
changed_serving {s = s} {v = v} q u w c new o =
    record {
      world = o.world;
      running = o.running;
      line_is = o.line_is;
      input = o.input;
      allowed = o.allowed;
      fits = o.fits;
      nested = changed_nested q u w c s.activations v.activations new o.nested;
      waiting = o.waiting;
      places = changed_places q w c (length v.edits) v.activations o.places;
    }

changed_frames : (q : Bool) (u : S.OnUnit) (c : Condition) (xs : List S.Activation) → frames_of (newest_served q u c xs) ≡ frames_of xs
changed_frames q u c [] = refl
changed_frames q u c (x ∷ xs) = refl

changed_kinds : (q : Bool) (u : S.OnUnit) (c : Condition) (xs : List S.Activation) → kinds_of (newest_served q u c xs) ≡ kinds_of xs
changed_kinds q u c [] = refl
changed_kinds q u c (x ∷ []) = refl
changed_kinds q u c (x ∷ y ∷ xs) = refl

changed_asides : {xss : List (List Aside)} {o : Serials} {types : Types} {living : List Living} {count : ℕ} (q : Bool) (u : OnUnit) (c : Condition) (as' : List Activation) → StandAside xss o types as' living count → StandAside xss o types (newest_changed q u c as') living count
changed_asides q u c [] all = all
changed_asides q u c (a ∷ as') all =
    asides_seen a (record a { units = changed q u c a.units }) as' (λ level i. binding_kept q u c (a ∷ as') level i) all

pub changed_all : {frames : Frames} {serials : Serials} {xs : Storage} {levels : List ℕ} {s : State} {block : Names} {types : Types} {n : Values} (q : Bool) (u : OnUnit) (w : S.OnUnit) (c : Condition) → NewestKnown (frames.known c) u w s.activations xs.activations → AllHold frames serials xs levels s block types n → AllHold frames serials (record xs { activations = newest_served q w c xs.activations }) levels (changed_state q u c s) block types n
changed_all {frames = frames} {xs = xs} {s = s} {block = block} q u w c new all =
    record {
      numbers = λ j b numeric.
          let h = all.numbers j b numeric in
          record { values = h.values; stands = binding_kept q u c s.activations (block.at j).level (block.at j).index ∙ h.stands; lives = h.lives; value = h.value; fits = h.fits };
      texts = λ j varying most at.
          let h = all.texts j varying most at in
          record { values = h.values; stands = binding_kept q u c s.activations (block.at j).level (block.at j).index ∙ h.stands; lives = h.lives; value = h.value; short = h.short };
      arrays = λ j type b bs at.
          let h = all.arrays j type b bs at in
          record { values = h.values; numeric = h.numeric; stands = binding_kept q u c s.activations (block.at j).level (block.at j).index ∙ h.stands; lives = h.lives; value = h.value; fits = h.fits };
      text_arrays = λ j varying most b bs at.
          let h = all.text_arrays j varying most b bs at in
          record { values = h.values; stands = binding_kept q u c s.activations (block.at j).level (block.at j).index ∙ h.stands; lives = h.lives; value = h.value; short = h.short };
      entered = changed_levels q u c s.activations ∙ all.entered;
      framed = changed_frames q w c xs.activations ∙ all.framed;
      kinds = changed_kinds q w c xs.activations ∙ all.kinds;
      units = changed_units frames.known q u w c s.activations xs.activations new all.units;
      aside = changed_asides q u c s.activations all.aside;
      stored = all.stored;
    }

-- they are what the meaning makes of the activations
pub established_is : (u : OnUnit) (c : Condition) (as' : List Activation) → newest_changed true u c as' ≡ established c u as'
established_is u c [] = refl
established_is u c (a ∷ as') = refl

reverted_is : (c : Condition) (as' : List Activation) → newest_changed false SystemUnit c as' ≡ reverted c as'
reverted_is c [] = refl
reverted_is c (a ∷ as') = refl

-- ---- what services 28 and 29 answer

pub number_small : (c : Condition) → condition_number c < 2 ^ 32
number_small C.Area = lit< tt
number_small C.FixedOverflow = lit< tt
number_small C.ZeroDivide = lit< tt
number_small C.Endfile = lit< tt
number_small C.Error = lit< tt

pub condition_is : (c : Condition) → U.condition_of (condition_number c) ≡ Some c
condition_is C.Area = refl
condition_is C.FixedOverflow = refl
condition_is C.ZeroDivide = refl
condition_is C.Endfile = refl
condition_is C.Error = refl

pub established_served : (u : S.OnUnit) (c : Condition) (xs : List S.Activation) (next' : List S.Activation → Answer) → 0 < length xs → or_bad (U.established c u xs) next' ≡ next' (newest_served true u c xs)
established_served u c [] next' some = absurd (omega (arith, some))
established_served u c (x ∷ xs) next' some = refl

reverted_served : (c : Condition) (xs : List S.Activation) (next' : List S.Activation → Answer) → 0 < length xs → or_bad (U.reverted c xs) next' ≡ next' (newest_served false S.SystemUnit c xs)
reverted_served c [] next' some = absurd (omega (arith, some))
reverted_served c (x ∷ xs) next' some = refl

abbrev pub done_with : Services → List ℕ → (x y : ℕ) → List S.Activation → Answer
done_with v m x y xs = Done (record v { activations = xs }) m x y

on_answer : (code : List Instr) (v : Services) (m : List ℕ) (c : Condition) → 0 < length v.activations → U.on_served (call_at code v m) (condition_number c) 0 ≡ Done (changed_services true S.SystemUnit c v) m (condition_number c) 0
on_answer code v m c some =
    ap (λ u. or_bad u (λ k. or_bad (U.established k S.SystemUnit v.activations) (done_with v m (condition_number c) 0))) (condition_is c)
    ∙ established_served S.SystemUnit c v.activations (done_with v m (condition_number c) 0) some

revert_answer : (code : List Instr) (v : Services) (m : List ℕ) (c : Condition) (y : ℕ) → 0 < length v.activations → U.revert_served (call_at code v m) (condition_number c) y ≡ Done (changed_services false S.SystemUnit c v) m (condition_number c) y
revert_answer code v m c y some =
    ap (λ u. or_bad u (λ k. or_bad (U.reverted k v.activations) (done_with v m (condition_number c) y))) (condition_is c)
    ∙ reverted_served c v.activations (done_with v m (condition_number c) y) some

-- ---- the statements

pub some_served : (level : ℕ) (levels : List ℕ) (as' : List Activation) (xs : List S.Activation) → Nested as' xs → levels_of as' ≡ level ∷ levels → 0 < length xs
some_served level levels [] xs nested entered = absurd (cc entered)
some_served level levels (a ∷ as') [] nested entered = absurd nested
some_served level levels (a ∷ as') (x ∷ xs) nested entered = omega arith

pub on_system_does : {e : Environment} {block : Names} {types : Types} (bl : Block e block types) (links : Links) (code : List Instr) (around : Around) (c : Condition) (line : ℕ) → line < 2 ^ 31 → Does bl links code around.turns (stmt_code e bl.taken (Y.OnSystem c line)) (M.statement around (Y.OnSystem c line))
unfolding M.statement M.established_by stored ◌>>◌
on_system_does {e} {block} {types} bl links code around c line fits =
    record {
      does = λ {i} {s} {v} {h} {t} {aims} closed old n f k l serving all at goal more.
          let a = act_code line in
          let front = condition_given c ∷ small a1 0 ∷ [] in
          let call = service 28 in
          let l1 = back_of a (front ++ call) l in
          let size = size_append a (front ++ call) in
          let place : i + size_of a + 2 + 2 ≡ i + size_of (a ++ (front ++ call)) = omega (arith, size) in
          let change : Unit {0} → Meaning (Unit {0}) = λ u. stored (λ s'. with_activations (established c SystemUnit s'.activations) s') in
          comes_on k (act counted k s) change
          (act_piece (before_closed k change closed) f line old k fits (front_of a (front ++ call) l) serving at
          (λ f1 serving1 at1.
          let s1 = with_world (counted s.world) s in
          let v1 = acted line v in
          let v2 = changed_services true S.SystemUnit c v1 in
          let all1 : AllHold bl.frames bl.serials (storage v1) (e.level ∷ bl.depths) s1 block types n = counted_all _ all in
          let some = some_served e.level bl.depths s1.activations v1.activations serving1.nested all1.entered in
          let z : Base → ℕ = λ b. (f1 b).machine.registers 12 in
          onward closed (straight (i + size_of a) f1 v1 v1 (λ b. Known (bl.ground n) v1 h t (three (λ b'. condition_number c) (λ b'. 0) z) b) (front_of front call l1) (omega arith) (λ b. (at1 b).pc)
          (λ b. let o = (at1 b).holds in let zero' = zero_is o.body in record {
            body = record { services = o.body.services; registers = o.body.registers; bytes = o.body.bytes; memory = o.body.memory };
            regs = (small_is _ (condition_number c) zero' (number_small c), (small_is _ 0 zero' (lit< tt), (refl, tt)));
          }))
          (λ f2 at2.
          asking_piece closed f2 v2 28 (λ b. condition_number c) (λ b. 0) z (λ b. condition_number c) (λ b. 0) (λ q x0 x1 x2 x3 x4. U.on_served q x0 x1) (lit< tt) (λ q r. refl) (omega arith)
          (λ b m x3 x4. on_answer code v1 m c some) (back_of front call l1) at2
          (λ f3 at3.
          let T : List Activation → Type 0 = λ as'. Serving k (with_world s1.world (with_activations as' s1)) v2 line × AllHold bl.frames bl.serials (storage v2) (e.level ∷ bl.depths) (with_world s1.world (with_activations as' s1)) block types n in
          let both : T (newest_changed true SystemUnit c s1.activations) = (changed_serving true SystemUnit S.SystemUnit c (system_new c) serving1, changed_all true SystemUnit S.SystemUnit c (system_known (bl.frames.known c) s1.activations v1.activations) all1) in
          let o = subst T (established_is SystemUnit c s1.activations) both in
          record {
            to = λ early.
                subst (λ u. aims.done u f3 v2 tt (with_world s1.world (with_activations (established c SystemUnit s1.activations) s1))) (sym place)
                (goal (with_world s1.world (with_activations (established c SystemUnit s1.activations) s1)) v2 line n h t f3 o.0 o.1 (stays_same bl.taken h t)
                (λ b. record { pc = (at3 b).pc ∙ ap (address b) place; holds = record { body = (at3 b).holds.body; regs = tt } }));
          }))));
    }

pub revert_does : {e : Environment} {block : Names} {types : Types} (bl : Block e block types) (links : Links) (code : List Instr) (around : Around) (c : Condition) (line : ℕ) → line < 2 ^ 31 → Does bl links code around.turns (stmt_code e bl.taken (Y.Revert c line)) (M.statement around (Y.Revert c line))
unfolding M.statement M.established_by stored ◌>>◌
revert_does {e} {block} {types} bl links code around c line fits =
    record {
      does = λ {i} {s} {v} {h} {t} {aims} closed old n f k l serving all at goal more.
          let a = act_code line in
          let front = condition_given c ∷ [] in
          let call = service 29 in
          let l1 = back_of a (front ++ call) l in
          let size = size_append a (front ++ call) in
          let place : i + size_of a + 1 + 2 ≡ i + size_of (a ++ (front ++ call)) = omega (arith, size) in
          let change : Unit {0} → Meaning (Unit {0}) = λ u. stored (λ s'. with_activations (reverted c s'.activations) s') in
          comes_on k (act counted k s) change
          (act_piece (before_closed k change closed) f line old k fits (front_of a (front ++ call) l) serving at
          (λ f1 serving1 at1.
          let s1 = with_world (counted s.world) s in
          let v1 = acted line v in
          let v2 = changed_services false S.SystemUnit c v1 in
          let all1 : AllHold bl.frames bl.serials (storage v1) (e.level ∷ bl.depths) s1 block types n = counted_all _ all in
          let some = some_served e.level bl.depths s1.activations v1.activations serving1.nested all1.entered in
          let y : Base → ℕ = λ b. (f1 b).machine.registers 11 in
          let z : Base → ℕ = λ b. (f1 b).machine.registers 12 in
          onward closed (straight (i + size_of a) f1 v1 v1 (λ b. Known (bl.ground n) v1 h t (three (λ b'. condition_number c) y z) b) (front_of front call l1) (omega arith) (λ b. (at1 b).pc)
          (λ b. let o = (at1 b).holds in record {
            body = record { services = o.body.services; registers = o.body.registers; bytes = o.body.bytes; memory = o.body.memory };
            regs = (small_is _ (condition_number c) (zero_is o.body) (number_small c), (refl, (refl, tt)));
          }))
          (λ f2 at2.
          asking_piece closed f2 v2 29 (λ b. condition_number c) y z (λ b. condition_number c) y (λ q x0 x1 x2 x3 x4. U.revert_served q x0 x1) (lit< tt) (λ q r. refl) (omega arith)
          (λ b m x3 x4. revert_answer code v1 m c (y b) some) (back_of front call l1) at2
          (λ f3 at3.
          let T : List Activation → Type 0 = λ as'. Serving k (with_world s1.world (with_activations as' s1)) v2 line × AllHold bl.frames bl.serials (storage v2) (e.level ∷ bl.depths) (with_world s1.world (with_activations as' s1)) block types n in
          let both : T (newest_changed false SystemUnit c s1.activations) = (changed_serving false SystemUnit S.SystemUnit c (system_new c) serving1, changed_all false SystemUnit S.SystemUnit c (system_known (bl.frames.known c) s1.activations v1.activations) all1) in
          let o = subst T (reverted_is c s1.activations) both in
          record {
            to = λ early.
                subst (λ u. aims.done u f3 v2 tt (with_world s1.world (with_activations (reverted c s1.activations) s1))) (sym place)
                (goal (with_world s1.world (with_activations (reverted c s1.activations) s1)) v2 line n h t f3 o.0 o.1 (stays_same bl.taken h t)
                (λ b. record { pc = (at3 b).pc ∙ ap (address b) place; holds = record { body = (at3 b).holds.body; regs = tt } }));
          }))));
    }

-- A number that is a member of what an offset names does what it means: it comes into a0, or ERROR ends the run.
use Rattle.std.proofs.Common.{◌≡◌, ℕ, ◌+◌, ◌≤◌, List, [], ◌++◌, Option, None, Some, refl, sym, ap, ◌∙◌, subst, arith}
use Rattle.std.specs.Prelude.{ℤ}
use Rattle.rv_meaning.specs.Machine.{value}
use Rattle.pli_typing.specs.Signatures.{LeafKind}
use Rattle.pli_typing.specs.TypedTree as Y
use Rattle.pli_meaning.specs.BasicValues.{BasicNumber, Name}
use Rattle.pli_meaning.specs.Contents.{Generation, number_in, seen}
use Rattle.pli_meaning.specs.Control.{Meaning, Normal, give, given, stuck, ◌>>=◌}
use Rattle.pli_meaning.specs.DeclaredShapes.{declared_variable, shape_of}
use Rattle.pli_meaning.specs.Evaluating as V
use Rattle.pli_meaning.specs.Evaluating.{pointer_into}
use Rattle.pli_meaning.specs.Raising as R
use Rattle.pli_meaning.specs.Raising.{Around}
use Rattle.pli_meaning.specs.StorageState as Q
use Rattle.pli_meaning.specs.StorageState.{State}
use Rattle.pli_serving.specs.Bytes.{offset_word}
use Rattle.pli_coding.specs.Assembly.{size_of}
use Rattle.pli_coding.specs.Expressions.{number_code, offset_code}
use Rattle.pli_coding.specs.Registers.{a0}
use Rattle.storage_relation.specs.Telling.{IsOffset}
use Rattle.activation_relation.specs.Layers.{Point, services_of}
use Rattle.activation_relation.proofs.Remaining.{shapes_remain}
use Rattle.run_steps.specs.Engine.{Base}
use Rattle.run_steps.specs.Items.{Linked}
use Rattle.run_steps.proofs.Jumps.{back_of, front_of}
use Rattle.run_steps.proofs.Linking.{size_append}
use Rattle.run_steps.specs.Reach.{Comes, Family, before, cost, reached}
use Rattle.run_steps.proofs.Reach.{before_closed, comes_on, onward, reach_then, reached_holds}
use Rattle.run_steps.proofs.Reaching.{reach_moved}
use Rattle.block_runs.specs.Machines.{IsIn}
use Rattle.block_runs.proofs.CallStatements.{comes_map}
use Rattle.expression_runs.specs.Laws as L
use Rattle.expression_runs.specs.Values.{Setting, Stretch, behind, in_registers, number_aims}
use Rattle.expression_runs.specs.Variables.{Spot, variable_of}
use Rattle.expression_runs.proofs.VariablePoints.{first_base}
use Rattle.expression_runs.proofs.Words.{IsFurther, number_closed, word_further, word_here}
use Rattle.variable_runs.specs.Known.{place_of}
use Rattle.area_runs.specs.Based.{based_of}
use Rattle.area_runs.proofs.BasedCode.{value_loaded}
use Rattle.area_assignments.proofs.Emptying.{area_stands}
use Rattle.member_runs.specs.Members.{IsMember, member_part, structure_declared, structure_shape}
use Rattle.member_runs.proofs.MemberMeaning.{behind_found, designated_member, part_found, part_missing, seen_is}
use Rattle.member_runs.proofs.MemberPoints.{member_told, structure_at}
use Rattle.member_runs.proofs.MemberReads.{number_of}
use Rattle.offset_runs.specs.OffsetReferences.{IsLocated, member_by}
use Rattle.offset_runs.specs.Offsets.{Gives, offset_aims}
use Rattle.offset_runs.proofs.LocatedCode.{located_code, located_coded}
use Rattle.offset_runs.proofs.LocatedRuns.{Locating, found_code, frame_at, into_code, none_ends, number_reaches}
use Rattle.offset_runs.proofs.LocatedRuns.{waits_reach}
use Rattle.offset_runs.proofs.PointerAssignments.{into_is}

-- once the name is there the member is designated by it
behind_name : Around → (n : Spot) → (member : ℕ) → Option Name → Meaning V.Designated
behind_name around n member o =
    (V.numbers around Y.NoNumber)
    >>= (λ is. V.variable_designated around (based_of n) o (member_part member) is)

behind_is :
    (around : Around) (s : State) (n : Spot) (members : List Y.Member) (leaves : List Y.Leaf) (member k : ℕ)
    (name : Name) → declared_variable around.program (based_of n) ≡ Some (structure_declared members leaves) →
    behind_name around n member (Some name) k s
    ≡ V.part_designated around name (structure_shape members leaves) (member_part member) [] k s
unfolding behind_name V.numbers V.variable_designated given ◌>>=◌ give
behind_is around s n members leaves member k name declared =
    ap (λ o. given o (λ d. V.part_designated around name (shape_of [] d) (member_part member) []) stuck k s) declared

abbrev number_value : V.Designated → Meaning ℤ
number_value d = give (number_in (V.value_in d))

-- from where the offset's word is in a0, by what lives by its name
found_comes :
    (k : Setting) (n a : Spot) (members : List Y.Member) (leaves : List Y.Leaf) (member : ℕ) (p : Point)
    (numbers : ℕ → ℕ) (taken c index : ℕ) (f : Family) (z : Locating k n a members leaves p numbers) (x : Stretch)
    (u : Option ℕ) → IsMember leaves member (Y.FixedLeaf 31) → IsOffset u → p.control.line ≡ k.around.line →
    IsFurther (behind p numbers taken c index (into_code k a ++ (found_code z member ++ value_loaded))) x →
    Linked k.block.call.surroundings.links k.block.call.code index
    (into_code k a ++ (found_code z member ++ value_loaded)) →
    c + size_of (into_code k a ++ (found_code z member ++ value_loaded)) + k.most ≤ cost k.block.call.code →
    ((b : Base) → IsIn k.block.call.surroundings p numbers index b (f b) × (value (f b).machine a0 ≡ offset_word u)) →
    (q : Option Generation) →
    Q.named p.state (pointer_into z.given.area.known.serial u) (structure_shape members leaves) ≡ q →
    Comes k.block.call.code c f (services_of p)
    (before k.block.call.code (number_aims k.block k.labels x) k.block.call.surroundings.acts number_value)
    (V.part_designated k.around (pointer_into z.given.area.known.serial u) (structure_shape members leaves)
    (member_part member) [] k.block.call.surroundings.acts p.state)
unfolding give
found_comes k n a members leaves member p numbers taken c index f z x u one fits line i l paid there None none =
    let w = k.block.call.surroundings in
    let code = k.block.call.code in
    let name = pointer_into z.given.area.known.serial u in
    let into' = into_code k a in
    let finds = found_code z member in
    let n0 = size_append into' (finds ++ value_loaded) in
    let n1 = size_append finds value_loaded in
    let rest = behind_found k.around members leaves member name in
    let closed = before_closed w.acts rest (before_closed w.acts number_value (number_closed k.block k.labels x)) in
    let r1 = waits_reach z u c f fits (front_of into' (finds ++ value_loaded) l) there in
    let most = z.given.ends.most in
    subst (λ flow. Comes code c f (services_of p)
    (before code (number_aims k.block k.labels x) w.acts number_value) flow)
    (sym (part_missing k.around p.state name members leaves member w.acts none))
    (comes_on w.acts (R.error {R = Generation} k.around 101 w.acts p.state) rest
    (onward closed r1 (λ g at.
    none_ends closed z k.around name member (c + size_of into') g one.few none line (omega (arith, paid, n0, n1, most))
    (front_of finds value_loaded (back_of into' (finds ++ value_loaded) l)) at)))
found_comes k n a members leaves member p numbers taken c index f z x u one fits line i l paid there (Some g) some =
    let w = k.block.call.surroundings in
    let code = k.block.call.code in
    let o = z.among in
    let name = pointer_into z.given.area.known.serial u in
    let into' = into_code k a in
    let finds = found_code z member in
    let n0 = size_append into' (finds ++ value_loaded) in
    let h = frame_at z in
    let memory = (f first_base).machine.memory in
    let stored = (there first_base).0.at.storage in
    let s = structure_at p z.given.signature name members leaves g memory stored z.given.plain
    (shapes_remain o.later.remains z.given.signature (structure_shape members leaves) z.given.numbered) some in
    let first = number_of (s.values member []) (member_told s one memory stored).tells.fits in
    let y = first.0 in
    let r1 = waits_reach z u c f fits (front_of into' (finds ++ value_loaded) l) there in
    let r2 = number_reaches z name one s y (c + size_of into') (reached r1) first.1
    (back_of into' (finds ++ value_loaded) l) (reached_holds r1) in
    let kind = seen_is members name s.extent s.values one in
    let d = designated_member members leaves name s.extent s.values member in
    let seen' : V.value_in d ≡ BasicNumber y =
    ap (λ (q : LeafKind). seen q (s.values member [])) kind ∙ first.1 in
    let here = behind p numbers taken c index (into' ++ (finds ++ value_loaded)) in
    subst (λ flow. Comes code c f (services_of p)
    (before code (number_aims k.block k.labels x) w.acts number_value) flow)
    (sym (part_found k.around p.state name members s.extent s.values w.acts one s.named))
    (record {
      to = λ early. subst (λ v. Comes code c f (services_of p) (number_aims k.block k.labels x)
          (Normal (number_in v) p.state)) (sym seen')
          (record {
            to = λ early'. (
              first.2,
              word_further i
                  (word_here {x = here} h o (omega arith) refl
                  (reach_moved (omega (arith, n0)) (omega (arith, n0)) (reach_then r1 r2))),
            );
          });
    })

-- ---- the whole

pub number_does :
    (k : Setting) (x : Y.Offset) (a n : Spot) (members : List Y.Member) (leaves : List Y.Leaf) (member need : ℕ) →
    IsLocated k n members leaves a → IsMember leaves member (Y.FixedLeaf 31) → Gives k need x →
    L.Does k need (Y.NumberIn (member_by x a n member))
unfolding V.number V.designated V.located V.pointer behind_name ◌>>=◌ give
number_does k source a n members leaves member need is one ev p numbers taken c index f o line registers l paid there =
    let e = k.block.environment in
    let w = k.block.call.surroundings in
    let code = k.block.call.code in
    let t = in_registers k.words taken in
    let area = is.area in
    let r = member_by source a n member in
    let coded' = ap (λ j. number_code e (in_registers j taken) (Y.NumberIn r)) is.none
    ∙ located_coded e taken source a n members leaves member is.signature one is.declared is.table area.own
    ∙ ap (λ j. offset_code e (in_registers j taken) source ++ located_code (place_of e a) is.signature member)
    (sym is.none) in
    let size = ap (λ v. size_of v) coded' in
    let first = offset_code e t source in
    let rest' = located_code (place_of e a) is.signature member in
    let n0 = size_append first rest' in
    let l0 = subst (Linked w.links code index) coded' l in
    let y = behind p numbers taken c index (number_code e t (Y.NumberIn r)) in
    let aims = number_aims k.block k.labels y in
    let named' : Name → Meaning (Option Name) = λ m. give (Some m) in
    let into' : Option ℕ → Meaning Name =
    λ u. (V.area_meant k.around (variable_of a)) >>= (λ i. give (pointer_into i u)) in
    let next' : Option Name → Meaning V.Designated = behind_name k.around n member in
    let goal3 = before code aims w.acts number_value in
    let goal2 = before code goal3 w.acts next' in
    let goal1 = before code goal2 w.acts named' in
    let goal0 = before code goal1 w.acts into' in
    let here = behind p numbers taken c index first in
    let offset' = V.offset k.around source w.acts p.state in
    let pointer' = V.pointer k.around (Y.PointerInto source (variable_of a)) w.acts p.state in
    let located' = V.located k.around (Y.LocatedBy (Y.PointerInto source (variable_of a))) w.acts p.state in
    comes_on w.acts (V.designated k.around r w.acts p.state) number_value
    (comes_on w.acts located' next'
    (comes_on w.acts pointer' named'
    (comes_on w.acts offset' into'
    (comes_map (offset_aims k.block k.labels here) goal0 refl offset'
    (λ c1 f1 v1 u s1 q1.
    let o1 = q1.1 in
    let p1 = o1.point in
    let since = o1.since in
    let name = pointer_into area.known.serial u in
    let z : Locating k n a members leaves p1 o1.numbers = record { given = is; among = o1.among } in
    subst (Comes code c1 f1 v1 goal1)
    (sym (ap (into' u w.acts) o1.state
    ∙ into_is k.around a area.declared area.known.serial w.acts p1.state u (area_stands area o1.among)
    ∙ ap (Normal name) (sym o1.state)))
    (record {
      to = λ early. record {
        to = λ early'.
            subst (λ s. Comes code c1 f1 v1 goal3 (next' (Some name) w.acts s)) (sym o1.state)
            (subst (Comes code c1 f1 v1 goal3)
            (sym (behind_is k.around p1.state n members leaves member w.acts name is.meant))
            (onward (before_closed w.acts number_value (number_closed k.block k.labels y)) o1.reach (λ g at.
            found_comes k n a members leaves member p1 o1.numbers taken (c + size_of first) (index + size_of first) g z
            y u one q1.0 (o1.line ∙ line)
            (record {
              acts = omega (arith, since);
              line = o1.line;
              index = omega (arith, n0, size);
              wanted = omega (arith, n0, size);
              taken = omega arith;
              stays = o1.stays;
            })
            (back_of first rest' l0) (omega (arith, paid, n0, size)) at
            (Q.named p1.state name (structure_shape members leaves)) refl)));
      };
    }))
    (λ c1 f1 v1 height label s1 q1. q1)
    (λ c1 f1 v1 v s1 q1. absurd q1)
    (ev p numbers taken c index f o line registers (front_of first rest' l0) (omega (arith, paid, n0, size)) there)))))

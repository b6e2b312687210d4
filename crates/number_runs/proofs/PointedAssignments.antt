-- Assignments to pointers, and to members that are pointers.
use Rattle.std.proofs.Common.{◌≡◌, ℕ, ◌+◌, ◌^◌, List, true, arith}
use Rattle.std.specs.Prelude.{max}
use Rattle.std.proofs.lemmas.Bool.{ltb-true}
use Rattle.pli_typing.specs.TypedTree as Y
use Rattle.pli_meaning.specs.Control.{Label}
use Rattle.expression_runs.specs.Variables.{whole}
use Rattle.locator_runs.specs.Pointers as A
use Rattle.locator_runs.proofs.PointerAssignments.{copy_does, null_does}
use Rattle.member_runs.specs.MemberPointers.{following, linking}
use Rattle.member_runs.specs.NullMembers.{nulling}
use Rattle.number_runs.specs.Knowledge.{HasFrame, Includes}
use Rattle.number_runs.specs.Numbers.{name_sets, reference_sets}
use Rattle.number_runs.specs.Statements.{is_line, is_pointed, pointer_sets}
use Rattle.number_runs.proofs.Homes.{Coded, Home, act_of, bare_coded}
use Rattle.number_runs.proofs.Pointed.{by_pointed}

pub pointed_assigned :
    (h : Home) (labels : List Label) (target : Y.Reference) (x : Y.Pointer) (line index : ℕ) → Includes h.own labels →
    is_line line ≡ true → is_pointed h.scope target x ≡ true →
    HasFrame h.ready h.words (max (pointer_sets x) (name_sets + reference_sets target)) →
    Coded h labels (Y.Assign target (Y.StoredPointer x) line) index
pointed_assigned h labels target x line index includes is one sets =
    let less = ltb-true line (2 ^ 31) is in
    by_pointed h.scope
    (λ r p. HasFrame h.ready h.words (max (pointer_sets p) (name_sets + reference_sets r)) →
    Coded h labels (Y.Assign r (Y.StoredPointer p) line) index) (record {
      null = λ may y known sets'.
          bare_coded h labels (A.assignment y Y.NullPointer line) index (h.plain may)
          (λ l. null_does h.block labels y line index h.left'
          (record { act = act_of h line is; pointer = (h.ready.based may).pointers y known; statement = l }));
      copied = λ may y z known other sets'.
          bare_coded h labels (A.assignment y (Y.PointerIn (whole z)) line) index (h.plain may)
          (λ l. copy_does h.block labels y z line index h.left'
          (record { act = act_of h line is; pointer = (h.ready.based may).pointers y known; statement = l })
          ((h.ready.based may).pointers z other));
      followed = λ may y p n m known other member sets'.
          bare_coded h labels (following y p n m line) index (h.plain may)
          (λ l. (h.ready.based may).followed labels y p n m line index includes known other member less l);
      nulled = λ may c p n m known member sets'.
          let loops = h.ready.loops c in
          let room = (sets' c).1 in
          bare_coded h labels (nulling p n m line) index (h.plain may)
          (λ l. (h.ready.based may).nulled labels p n m line index loops.layer loops.others includes known member less
          loops.newest (omega (arith, room)) l);
      linked = λ may c p n m y known member other sets'.
          let loops = h.ready.loops c in
          let room = (sets' c).1 in
          bare_coded h labels (linking p n m y line) index (h.plain may)
          (λ l. (h.ready.based may).linked labels p n m y line index loops.layer loops.others includes known member
          other less loops.newest (omega (arith, room)) l);
    }) target x one sets

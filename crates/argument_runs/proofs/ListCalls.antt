-- A call with a list of arguments comes behind it, if the procedure's body comes to its end.
use Rattle.std.proofs.Common.{ℕ, ◌+◌, None, true, refl}
use Rattle.pli_meaning.specs.Control.{Meaning, left}
use Rattle.pli_meaning.specs.StorageState.{newest_ended}
use Rattle.pli_coding.specs.Assembly.{size_of}
use Rattle.activation_relation.specs.Layers.{services_of}
use Rattle.run_steps.specs.Engine.{Base}
use Rattle.run_steps.specs.Owing.{owing}
use Rattle.run_steps.proofs.Owing.{comes_owing, owing_closed}
use Rattle.run_steps.specs.Reach.{Comes, Family}
use Rattle.run_steps.proofs.Reach.{onward}
use Rattle.block_runs.specs.Bodies.{Called, behind_aims, body_aims, place_in}
use Rattle.block_runs.specs.Endings.{ending_code}
use Rattle.block_runs.specs.Machines.{AreIn, IsIn}
use Rattle.block_runs.proofs.CallStatements.{comes_map}
use Rattle.block_runs.proofs.CallsReturn.{at_end_owing}
use Rattle.block_runs.proofs.EmptyCalls.{comes_left, left_aims, left_closed}
use Rattle.argument_runs.specs.ListBeginnings.{IsListing, KeepsList, listed_code}
use Rattle.argument_runs.specs.ListCalls.{Giving, IsGiving, entered_point}
use Rattle.argument_runs.proofs.ListBeginnings.{list_begins}

pub list_calls_return :
    (k : Called) (g : Giving) (part : Meaning (Unit {0})) (credits left' wanted : ℕ) (f : Family) → IsGiving k g →
    ((h : Family) →
    ((b : Base) → IsIn k.surroundings (entered_point g) k.numbers
    (k.entry + size_of (listed_code g.beginning g.parameters)) b (h b) × KeepsList g.list b (h b)) →
    Comes k.code
    (credits + (left' + size_of (ending_code k.beginning.layer (place_in k.function))) + 2
    + size_of (listed_code g.beginning g.parameters)) h (services_of (entered_point g)) (body_aims k left')
    (part k.surroundings.acts (entered_point g).state)) →
    AreIn k.surroundings g.point k.numbers k.call f → ((b : Base) → IsListing g.point g.beginning g.list b (f b)) →
    Comes k.code credits f (services_of g.point) (behind_aims k wanted)
    (left true newest_ended (part k.surroundings.acts (entered_point g).state))
list_calls_return k g part credits left' wanted f is body there gives =
    let debt = left' + size_of (ending_code k.beginning.layer (place_in k.function)) in
    let aims = behind_aims k wanted in
    let owed = owing k.code debt aims in
    let flow = part k.surroundings.acts (entered_point g).state in
    comes_owing debt (left true newest_ended flow)
    (comes_left newest_ended flow
    (onward (left_closed newest_ended (owing_closed k.code debt aims))
    (list_begins (credits + debt) f is.listing is.call there gives)
    (λ h at.
    comes_map (body_aims k left') (left_aims newest_ended owed) refl flow
    (λ c g' v u s o. at_end_owing k left' wanted c g' v None s is.ending o)
    (λ c g' v height label s o. absurd o)
    (λ c g' v r s o. at_end_owing k left' wanted c g' v r s is.ending o)
    (body h at))))

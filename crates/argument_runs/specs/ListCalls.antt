-- A call with a list of arguments, of a procedure whose body comes to its end.
use Rattle.std.specs.Prelude.{ℕ, List, ◌+◌, true}
use Rattle.pli_meaning.specs.Control.{Meaning, left}
use Rattle.pli_meaning.specs.StorageState.{newest_ended}
use Rattle.pli_coding.specs.Assembly.{size_of}
use Rattle.activation_relation.specs.Layers.{Point, services_of}
use Rattle.run_steps.specs.Engine.{Base}
use Rattle.run_steps.specs.Reach.{Comes, Family}
use Rattle.block_runs.specs.Beginnings.{Beginning, begun_point}
use Rattle.block_runs.specs.Bodies.{Called, IsEnding, behind_aims, body_aims, place_in}
use Rattle.block_runs.specs.Endings.{ending_code}
use Rattle.block_runs.specs.Machines.{AreIn, IsIn}
use Rattle.argument_runs.specs.ListBeginnings.{IsListCall, IsListing, KeepsList, Listing, beginning_listed, listed_code}

-- how it begins: from a point at which the list has been given; its body runs and ends over another one, at which the
-- caller's words hold what the procedure made of the list
pub record Giving : Type 0 where
  pub point : Point
  pub beginning : Beginning
  pub list : ℕ
  pub parameters : List ℕ

-- where its block has been entered
abbrev pub entered_point : Giving → Point
entered_point g = begun_point (beginning_listed g.list g.beginning) g.point

pub record IsGiving (k : Called) (g : Giving) : Type 0 where
  pub listing : Listing k.surroundings k.code g.point k.numbers g.beginning g.list
  pub call : IsListCall k.surroundings k.code g.beginning g.parameters k.call k.entry
  pub ending : IsEnding k

-- it comes behind its call with as many credits more as are left at the end and as the end costs
abbrev pub ListCallsReturn : Type 0
ListCallsReturn =
    (k : Called) (g : Giving) (part : Meaning (Unit {0})) (credits left' wanted : ℕ) (f : Family) → IsGiving k g →
    ((h : Family) →
    ((b : Base) → IsIn k.surroundings (entered_point g) k.numbers
    (k.entry + size_of (listed_code g.beginning g.parameters)) b (h b) × KeepsList g.list b (h b)) →
    Comes k.code
    (credits + (left' + size_of (ending_code k.beginning.layer (place_in k.function))) + 2
    + size_of (listed_code g.beginning g.parameters)) h (services_of (entered_point g)) (body_aims k left')
    (part k.surroundings.acts (entered_point g).state)) →
    AreIn k.surroundings g.point k.numbers k.call f → ((b : Base) → IsListing g.point g.beginning g.list b (f b)) →
    Comes k.code credits f (services_of g.point) (behind_aims k wanted)
    (left true newest_ended (part k.surroundings.acts (entered_point g).state))

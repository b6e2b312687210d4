-- A program of such statements keeps the headline.
use Rattle.std.proofs.Common.{ℕ, suc, ◌+◌, ◌*◌, ◌^◌, ◌<◌, ◌≤◌, List, [], ◌∷◌, Option, length, refl, arith}
use Rattle.pli_typing.specs.TypedTree as Y
use Rattle.pli_meaning.specs.Executing.{meaning, run}
use Rattle.pli_meaning.specs.Pictures.{first_bytes}
use Rattle.pli_meaning.specs.StorageState.{first_state}
use Rattle.area_keeper.specs.KeeperLaws.{Keeps}
use Rattle.run_keeper.specs.RunKeeper.{run_keeper}
use Rattle.pli_serving.specs.ServiceState.{first_services}
use Rattle.pli_coding.specs.Images.{picture_of}
use Rattle.pli_coding.specs.SignatureTable.{table_of}
use Rattle.storage_relation.specs.Controlled.{Variable}
use Rattle.activation_relation.specs.Points.{early_serials}
use Rattle.run_steps.specs.Reach.{GiveFew}
use Rattle.block_runs.specs.Machines.{limits_of}
use Rattle.pli_headline.specs.Headline.{Headline, parts}
use Rattle.pli_headline.proofs.Promises as P
use Rattle.pli_headline.proofs.Promises.{Comes_at, Laws, Works, from_flow, promised}
use Rattle.program_runs.specs.Starts.{surroundings_of}
use Rattle.program_runs.proofs.Starts.{first_step_of}
use Rattle.block_headlines.specs.Headlines.{Layout, whole_of}
use Rattle.controlled_runs.proofs.Programs.{listed_program_runs}
use Rattle.controlled_headlines.specs.Headlines.{ListsRun}

comes :
    Laws → Keeps run_keeper → (program : Y.Program) (x : Layout) (of : ℕ → Option Variable) → ListsRun program x of →
    (input : List ℕ) (k : ℕ) → k + 1 < 2 ^ 64 →
    GiveFew (picture_of parts program).code (limits_of (surroundings_of (whole_of program x input k).image))
    (P.first_family (picture_of parts program) (table_of program) input) →
    Comes_at (picture_of parts program) (table_of program) program input k
unfolding meaning
comes laws keeps program x of is input k few early =
    from_flow (limits_of (surroundings_of (whole_of program x input k).image)) laws (picture_of parts program)
    (table_of program) program input k (run program (suc k) k (first_state input)) refl
    (listed_program_runs keeps of (whole_of program x input k) (first_bytes (picture_of parts program))
    (is.whole input k few) is.labels (is.lists input k) (is.each input k few)) early

works :
    Laws → Keeps run_keeper → (program : Y.Program) (x : Layout) (of : ℕ → Option Variable) → ListsRun program x of →
    Works (picture_of parts program) (table_of program) program
works laws keeps program x of is =
    let start = (is.whole [] 0 (omega arith)).start.linked in
    let low = start.small' in
    record {
      small = omega (arith, low);
      early = early_serials;
      enough = omega arith;
      comes = comes laws keeps program x of is;
      first = λ input b. first_step_of (first_bytes (picture_of parts program))
          (first_services (table_of program) input) x.main.head.number start b;
    }

pub kept :
    Laws → Keeps run_keeper → (program : Y.Program) (x : Layout) (of : ℕ → Option Variable) → ListsRun program x of →
    Headline program (picture_of parts program) (table_of program)
kept laws keeps program x of is =
    promised laws (picture_of parts program) (table_of program) program (works laws keeps program x of is)

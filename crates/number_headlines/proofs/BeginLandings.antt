-- The blocks further out of a begin block of the class: the block in which it stands, and those around that.
use Rattle.std.proofs.Common.{◌≡◌, ℕ, suc, ◌≤◌, List, Bool, true, refl, subst, arith}
use Rattle.pli_typing.specs.TypedTree as Y
use Rattle.pli_meaning.specs.Control.{is_among}
use Rattle.pli_meaning.specs.Executing.{labels_in}
use Rattle.pli_meaning.specs.StorageState.{ancestor_at}
use Rattle.activation_relation.specs.Layers.{Point}
use Rattle.nested_begins.proofs.InnerBlocks.{inner_over}
use Rattle.nested_calls.proofs.NestedVariables.{same_ancestor}
use Rattle.number_runs.specs.Knowledge.{Includes}
use Rattle.number_headlines.specs.Jumps.{is_jumped_to}
use Rattle.number_headlines.proofs.BeginEntered.{At, made_at}
use Rattle.number_headlines.proofs.BeginSites.{Stands, around_it, begin_in, is_begin, run_begun}
use Rattle.number_headlines.proofs.CalledBlocks.{Moment}
use Rattle.number_headlines.proofs.CalledLandings.{landing_by}
use Rattle.number_headlines.proofs.Landings.{HasLandings}
use Rattle.number_headlines.proofs.Mains.{Main}
use Rattle.number_headlines.proofs.Running.{Running, block_of_run}

begun_same :
    {program : Y.Program} {m : Main program} {input : List ℕ} {acts : ℕ} {valued : Bool} {more b : ℕ} {a : Running}
    {p : Point} {numbers : ℕ → ℕ} (z : Stands m input acts valued more b a) (o : At z p numbers) (n : ℕ) →
    n ≤ a.head.level →
    ancestor_at (block_of_run program input acts valued more (run_begun z p numbers)).first.state n
    ≡ ancestor_at (around_it z).first.state n
unfolding inner_over
begun_same {more = more} {a = a} {p = p} {numbers = numbers} z o n low =
    let h = z.running in
    same_ancestor {numbers = numbers} n
    (inner_over (around_it z) z.labels (begin_in z) z.index more (is_begin z o.shallow) h.nested p numbers o.among
    (made_at o) o.begun) h.nested o.among (omega arith) low

pub begun_landings :
    {program : Y.Program} {m : Main program} {input : List ℕ} {acts : ℕ} {valued : Bool} {more b : ℕ} {a : Running}
    {p : Point} {numbers : ℕ → ℕ} (z : Stands m input acts valued more b a) → At z p numbers → HasLandings m a →
    (is_jumped_to program m.called a.head.level a.head.number ≡ true → Includes (labels_in a.body) z.labels) →
    HasLandings m (run_begun z p numbers)
begun_landings {program} {m} {input} {acts} {valued} {more} {b} {a} {p} {numbers} z o lands named =
    let at : Moment m input acts valued (suc more) a (suc b) p numbers = record {
      running = z.running;
      among = o.among;
    } in
    record {
      far = λ n label out.
          landing_by m at a.layers lands lands.target z.labels named (run_begun z p numbers)
          (record { inside = z.within.level; around_it = omega arith; alike = z.within.alike }) refl
          (λ j low. begun_same z o j low) n label out;
      own = λ label among. absurd (cc (subst (λ ls. is_among label ls ≡ true) z.within.apart among));
      target = λ jumped label among.
          absurd (cc (subst (λ ls. is_among label ls ≡ true) z.within.apart among));
    }

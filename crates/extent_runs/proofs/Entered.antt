-- A block that has been entered has begun.
use Rattle.std.proofs.Common.{◌≡◌, ℕ, ◌+◌, ◌^◌, ◌<◌, List, [], length, refl, ap, arith}
use Rattle.rv_meaning.specs.declared.instr.Instr.{Instr}
use Rattle.pli_meaning.specs.Control.{Label}
use Rattle.pli_meaning.specs.Executing as M
use Rattle.pli_meaning.specs.World.{World, counted}
use Rattle.activation_relation.specs.Layers.{Point}
use Rattle.activation_relation.specs.Points.{AreFew, Stands, Surroundings, IsEarly}
use Rattle.activation_relation.proofs.Remaining.{remains_acted, remains_entered, remains_then}
use Rattle.activation_relation.proofs.Returning.{later_same}
use Rattle.activation_relation.proofs.Serials.{few_acted, few_made}
use Rattle.block_runs.specs.Machines.{IsImage, acted}
use Rattle.block_runs.proofs.BlockEntries.{Premises, begun_stands}
use Rattle.block_runs.proofs.InnerEntries as I
use Rattle.block_runs.proofs.PointActs.{stands_acted}
use Rattle.program_runs.specs.Calls.{Callee, IsCallee, begun_at, called_at}
use Rattle.program_runs.specs.Procedures.{HasRoom, layer_for}
use Rattle.program_runs.specs.Statements.{Block, IsAmong, IsBegun}
use Rattle.program_runs.proofs.Waiting.{outer_among}
use Rattle.begin_runs.specs.BeginBlocks.{Inner, IsBegin, begun_in, inner_beginning, inner_block}
use Rattle.begin_runs.specs.BehindLists.{from_point}
use Rattle.begin_runs.proofs.Begins.{here_of, premises}
use Rattle.extent_runs.specs.Entered.{IsMadeUpTo, entered_at, entered_in}
use Rattle.extent_runs.specs.Making.{block_from}
use Rattle.extent_runs.proofs.MakingProcedures.{is_call}

pub begins_entered :
    (k : Block) (labels : List Label) (x : Inner) (index more : ℕ) (p : Point) (numbers : ℕ → ℕ) →
    IsBegin k x index more → IsAmong k numbers p → p.state.world.acts < k.call.surroundings.acts →
    IsBegun (from_point (inner_block k labels p numbers x index) (entered_in k p numbers x))
    × IsAmong (from_point (inner_block k labels p numbers x index) (entered_in k p numbers x)) numbers
    (entered_in k p numbers x)
begins_entered k labels x index more p numbers h o less =
    let w = k.call.surroundings in
    let b = h.begun in
    let z = here_of k labels x index 0 more p numbers in
    let start = begun_in k p numbers x in
    let q = entered_in k p numbers x in
    let y = inner_beginning k p numbers x in
    let φ = y.layer in
    let known = I.inner_stands (premises z (record { begin = h; among = o })) in
    let new = stands_acted x.head.line known.0 known.1 less in (
      record {
        activation = M.activation_of x.head y.entry (length p.state.activations + 1);
        resumes = record {
          stands = new.0;
          idle = refl;
          changed = record {
            units = φ.units;
            waits = φ.waits;
            told = φ.told;
            top = φ.top;
            lower = φ.lower;
            carried = φ.carried;
          };
          layers = refl;
          own = [];
          activations = refl;
          more = omega arith;
        };
        acts = omega arith;
        remains = remains_then p start q (remains_entered p x.head y.entry φ x.head.line)
            (remains_acted start counted x.head.line);
        outer = (
          record {
            activation = b.activation;
            resumes = b.resumes;
            remains = b.remains;
            numbers = numbers;
            among = outer_among k labels [] b o;
          },
          b.outer,
        );
      },
      record {
        stands = new.0;
        image = new.1;
        later = later_same q;
        few = few_acted w start x.head.line o.few;
        entries = refl;
        others = o.others;
        words = o.words;
      },
    )

pub procedures_entered :
    (w : Surroundings) (code : List Instr) (c : Callee) (p : Point) (numbers : ℕ → ℕ) →
    Stands w p × IsImage w code p → AreFew w p → IsCallee w code c × HasRoom w p c.procedure c.calling →
    ((n : ℕ) → numbers n < 2 ^ 32) → p.state.world.acts < w.acts →
    IsBegun (block_from w code c p numbers (entered_at w c p numbers))
    × IsAmong (block_from w code c p numbers (entered_at w c p numbers)) numbers (entered_at w c p numbers)
procedures_entered w code c p numbers known few h words less =
    let head = c.procedure.head in
    let start = begun_at w c p numbers in
    let q = entered_at w c p numbers in
    let y = (called_at w code c p numbers).beginning in
    let φ = layer_for w p numbers c.procedure c.calling in
    let is = is_call w code c p numbers known h words in
    let given : Premises w code p numbers y = record {
      stands = known.0;
      image = known.1;
      is = is.beginning;
    } in
    let begun' = begun_stands given in
    let new = stands_acted head.line begun'.0 begun'.1 less in (
      record {
        activation = M.activation_of head y.entry (length p.state.activations + 1);
        resumes = record {
          stands = new.0;
          idle = refl;
          changed = record {
            units = φ.units;
            waits = φ.waits;
            told = φ.told;
            top = φ.top;
            lower = φ.lower;
            carried = φ.carried;
          };
          layers = refl;
          own = [];
          activations = refl;
          more = omega arith;
        };
        acts = omega arith;
        remains = remains_then p start q (remains_entered p head y.entry φ head.line)
            (remains_acted start counted head.line);
        outer = tt;
      },
      record {
        stands = new.0;
        image = new.1;
        later = later_same q;
        few = few_acted w start head.line few;
        entries = refl;
        others = λ n more. refl;
        words = words;
      },
    )

pub behind_entered :
    (w : Surroundings) (code : List Instr) (c : Callee) (p q : Point) (numbers : ℕ → ℕ) → IsEarly w p →
    IsMadeUpTo w code c p numbers q → ((n : ℕ) → numbers n < 2 ^ 32) → q.state.world.acts < w.acts →
    IsBegun (block_from w code c p numbers (acted c.procedure.head.line q))
    × IsAmong (block_from w code c p numbers (acted c.procedure.head.line q)) numbers (acted c.procedure.head.line q)
behind_entered w code c p q numbers early is words less =
    let line = c.procedure.head.line in
    let next' = acted line q in
    let same : q.state.world.acts ≡ p.state.world.acts = ap (λ (u : World). u.acts) is.world in
    let new = stands_acted line is.stands.0 is.stands.1 less in (
      record {
        activation = is.activation;
        resumes = record {
          stands = new.0;
          idle = is.idle;
          changed = is.changed;
          layers = is.layers;
          own = is.own;
          activations = is.activations;
          more = omega (arith, same);
        };
        acts = omega arith;
        remains = remains_then p q next' is.remains (remains_acted q counted line);
        outer = tt;
      },
      record {
        stands = new.0;
        image = new.1;
        later = later_same next';
        few = few_made w p next' early is.few (omega (arith, same, less));
        entries = refl;
        others = λ n more. refl;
        words = words;
      },
    )

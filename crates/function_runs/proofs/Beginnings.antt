-- What a function's call makes of the point where it stands, and where its statements begin.
use Rattle.std.proofs.Common.{◌≡◌, ℕ, ◌+◌, ◌^◌, ◌<◌, ◌≤◌, List, [], ◌∷◌, ◌++◌, refl, ap, arith}
use Rattle.rv_meaning.specs.declared.instr.Instr.{Instr}
use Rattle.pli_meaning.specs.World.{World, counted}
use Rattle.pli_serving.specs.Blocks as B
use Rattle.activation_relation.specs.Layers.{Point}
use Rattle.activation_relation.specs.Points.{AreFew, Stands, Surroundings}
use Rattle.activation_relation.proofs.Remaining.{remains_acted, remains_then}
use Rattle.activation_relation.proofs.Returning.{later_same}
use Rattle.run_steps.specs.Engine.{most_code}
use Rattle.block_runs.specs.Beginnings.{IsBeginning}
use Rattle.block_runs.specs.Machines.{IsImage, acted}
use Rattle.block_runs.proofs.PointActs.{stands_acted}
use Rattle.program_runs.specs.Calls.{AreMade, Callee, begun_at}
use Rattle.program_runs.specs.Procedures.{HasRoom}
use Rattle.program_runs.specs.Statements.{IsAmong, IsBegun}
use Rattle.function_runs.specs.Functions.{IsFunction, function_beginning, function_block}

pub function_begins :
    (w : Surroundings) (code : List Instr) (p : Point) (numbers : ℕ → ℕ) (c : Callee) → Stands w p × IsImage w code p →
    IsFunction w code c × HasRoom w p c.procedure c.calling → c.calling.call + 2 ≤ most_code →
    ((n : ℕ) → numbers n < 2 ^ 32) → IsBeginning w p numbers (function_beginning w p numbers c.procedure c.calling)
function_begins w code p numbers c known fits near words =
    record {
      next = record {
        layer = record { level = refl; runs = refl; units = refl; parent = fits.1.parent };
        laid = record {
          above = refl;
          fixed = omega arith;
          falls = omega arith;
          free = fits.1.room;
          saved = fits.0.saved;
          told = λ n v e. absurd (cc e);
        };
        entries = ([], refl);
        edits = refl;
        over = known.0.over;
      };
      entering = record {
        entered = ap (λ o. B.entered_of 0 p.control.line o) fits.1.idle;
        given = refl;
        arguments = [];
        below = refl;
        many = refl;
        places = refl;
        units = refl;
      };
      shallow = fits.1.shallow;
      kind = refl;
      level = fits.0.level;
      line = fits.0.line;
      few = omega arith;
      back = near;
      held = refl;
      words = λ n less. words n;
      waits = λ n. refl;
      told = λ n. refl;
      list = refl;
      top = refl;
      lower = refl;
    }

pub first_among :
    (w : Surroundings) (code : List Instr) (c : Callee) (p : Point) (numbers : ℕ → ℕ) →
    Stands w (c.made (begun_at w c p numbers)) × IsImage w code (c.made (begun_at w c p numbers)) →
    ((n : ℕ) → numbers n < 2 ^ 32) → (c.made (begun_at w c p numbers)).state.world.acts < w.acts →
    AreFew w (function_block w code c p numbers).first →
    IsAmong (function_block w code c p numbers) numbers (function_block w code c p numbers).first
first_among w code c p numbers made' words less few =
    let known = stands_acted c.procedure.head.line made'.0 made'.1 less in
    record {
      stands = known.0;
      image = known.1;
      later = later_same (function_block w code c p numbers).first;
      few = few;
      entries = refl;
      others = λ n more. refl;
      words = words;
    }

pub first_begun :
    (w : Surroundings) (code : List Instr) (c : Callee) (p : Point) (numbers : ℕ → ℕ) → AreMade w code c p numbers →
    Stands w (begun_at w c p numbers) → Stands w (function_block w code c p numbers).first →
    IsBegun (function_block w code c p numbers)
first_begun w code c p numbers made' begun' stands =
    let same = ap (λ (u : World). u.acts) made'.world in
    let then' = c.made (begun_at w c p numbers) in
    let first = acted c.procedure.head.line then' in
    record {
      activation = made'.activation;
      resumes = record {
        stands = stands;
        idle = made'.idle;
        changed = made'.changed;
        layers = made'.layers;
        own = made'.own;
        activations = made'.activations;
        more = omega (arith, same);
      };
      acts = omega (arith, same);
      remains = remains_then p then' first (made'.remains begun') (remains_acted then' counted c.procedure.head.line);
      outer = tt;
    }

-- A procedure or a function as it is called: where it stands, and its block.
use Rattle.std.proofs.Common.{ℕ, List, [], Bool}
use Rattle.rv_meaning.specs.declared.instr.Instr.{Instr}
use Rattle.pli_typing.specs.TypedTree as Y
use Rattle.pli_meaning.specs.Raising.{at_line}
use Rattle.activation_relation.specs.Layers.{Point}
use Rattle.activation_relation.specs.Points.{Surroundings}
use Rattle.block_runs.specs.Machines.{acted}
use Rattle.program_places.specs.Programs.{Site, callee_at}
use Rattle.program_runs.specs.Calls.{Callee, begun_at}
use Rattle.program_runs.specs.Procedures.{layer_for}
use Rattle.program_runs.specs.Statements.{Block}
use Rattle.number_headlines.proofs.CalledBlocks.{end_by}
use Rattle.number_headlines.proofs.Mains.{made_for}
use Rattle.number_headlines.proofs.Running.{around_for, entry_by, function_by}

-- its list, the height of its static parent, the index of its call, and the point there, with what waits in registers
pub record Called : Type 0 where
  pub head : Y.BlockHead
  pub body : Y.Stmts
  pub parent : ℕ
  pub call : ℕ
  pub point : Point
  pub numbers : ℕ → ℕ

-- blocks may be entered so many deep inside it
abbrev pub site_of : Y.Program → (more : ℕ) → Called → Site
site_of program more a =
    record { parent = a.parent; call = a.call; around = around_for program more; made = made_for program a.head }

abbrev pub callee_of : Y.Program → (valued : Bool) → (more : ℕ) → Called → Callee
callee_of program valued more a =
    callee_at program a.head a.body (site_of program more a) (end_by valued program a.head a.body)

abbrev pub called_block : (valued : Bool) → Surroundings → List Instr → Callee → Point → (numbers : ℕ → ℕ) → Block
called_block valued w code c p numbers =
    record {
      call = record {
        surroundings = w;
        code = code;
        point = p;
        numbers = numbers;
        beginning = record {
          head = c.procedure.head;
          entry = entry_by valued c.procedure c.calling.parent;
          layer = layer_for w p numbers c.procedure c.calling;
          texts = 0;
        };
        call = c.calling.call;
        entry = c.calling.entry;
        end = c.calling.end;
        function = function_by valued;
      };
      first = acted c.procedure.head.line (c.made (begun_at w c p numbers));
      environment = c.environment;
      around = at_line c.around c.procedure.head.line;
      registers = c.procedure.saved;
      outers = [];
    }

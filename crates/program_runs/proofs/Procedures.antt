-- The layer that a call makes, and the code of a procedure without parameters.
use Rattle.std.proofs.Common.{◌≡◌, ℕ, ◌^◌, ◌<◌, List, [], ◌∷◌, ◌++◌, None, Some, refl, ap, ◌∙◌, arith}
use Rattle.std.proofs.lemmas.List.{append_assoc}
use Rattle.rv_meaning.specs.declared.instr.Instr.{Instr}
use Rattle.pli_serving.specs.Blocks as B
use Rattle.pli_coding.specs.Allocating.{act_code}
use Rattle.pli_coding.specs.Assembly.{Mark, ProcedureEntry, ReturnPlace}
use Rattle.pli_coding.specs.Entries.{frame_begun, block_entered, variables_code}
use Rattle.pli_coding.specs.Environments.{Environment, none_taken}
use Rattle.pli_coding.specs.Instructions.{move}
use Rattle.pli_coding.specs.Procedures.{procedure_with}
use Rattle.pli_coding.specs.Registers.{a1, a2, a3, u5}
use Rattle.pli_coding.specs.Statements.{stmts_code}
use Rattle.activation_relation.specs.Layers.{Point}
use Rattle.activation_relation.specs.Points.{Surroundings, Stands}
use Rattle.block_runs.specs.Beginnings.{IsBeginning}
use Rattle.block_runs.specs.Machines.{IsImage}
use Rattle.block_runs.proofs.EmptyMeaning.{join_code}
use Rattle.program_runs.specs.Procedures.{Procedure, Calling, IsCoded, HasRoom, beginning_for, begin_of}
use Rattle.program_runs.specs.Procedures.{end_of, procedure_code}

pub layer_begins :
    (w : Surroundings) (code : List Instr) (p : Point) (numbers : ℕ → ℕ) (x : Procedure) (y : Calling) →
    Stands w p × IsImage w code p → IsCoded x y × HasRoom w p x y → ((n : ℕ) → numbers n < 2 ^ 32) →
    IsBeginning w p numbers (beginning_for w p numbers x y)
layer_begins w code p numbers x y known fits words =
    record {
      next = record {
        layer = record { level = refl; runs = refl; units = refl; parent = fits.1.parent };
        laid = record {
          above = refl;
          fixed = omega arith;
          falls = omega arith;
          free = fits.1.room;
          saved = fits.0.saved;
          told = λ n v e. absurd (cc e);
        };
        entries = ([], refl);
        edits = refl;
        over = known.0.over;
      };
      entering = record {
        entered = ap (λ o. B.entered_of 0 p.control.line o) fits.1.idle;
        given = refl;
        arguments = [];
        below = refl;
        many = refl;
        places = refl;
        units = refl;
      };
      shallow = fits.1.shallow;
      kind = refl;
      level = fits.0.level;
      line = fits.0.line;
      few = omega arith;
      back = fits.0.back;
      held = refl;
      words = λ n less. words n;
      waits = λ n. refl;
      told = λ n. refl;
      list = refl;
      top = refl;
      lower = refl;
    }

pub procedure_coded :
    (e : Environment) (x : Procedure) → variables_code e x.head.line ≡ x.variables →
    procedure_with e x.head x.body x.words x.saved [] None ≡ Mark (ProcedureEntry x.head.number) ∷ procedure_code e x
procedure_coded e x same =
    let line = x.head.line in
    let entry = Mark (ProcedureEntry x.head.number) in
    let frame = frame_begun x.words x.head.level 0 (Some x.saved) in
    let rest = stmts_code e none_taken x.body ++ (Mark (ReturnPlace x.head.number) ∷ end_of x) in
    ap (λ u. entry ∷ ((frame ++ (move u5 a1 ∷ move a3 a2 ∷ (block_entered 0 line ++ (u ++ act_code line)))) ++ rest))
    same
    ∙ ap (λ u. entry ∷ u)
    (join_code frame (move u5 a1) (move a3 a2) (block_entered 0 line) (x.variables ++ act_code line) rest)
    ∙ ap (λ u. entry ∷ (begin_of x ++ u)) (append_assoc x.variables (act_code line) rest)

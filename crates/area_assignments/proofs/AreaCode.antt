-- The code of EMPTY and of an area assignment, where the areas stand in the running frame.
use Rattle.std.proofs.Common.{◌≡◌, ℕ, [], ◌∷◌, ◌++◌, Bool, true, ap, ◌∙◌}
use Rattle.std.specs.Prelude.{cond, pos, ◌==◌}
use Rattle.rv_meaning.specs.declared.instr.BranchTest.TheVariants as Test
use Rattle.rv_meaning.specs.declared.instr.Instr.TheVariants as I
use Rattle.rv_meaning.specs.declared.instr.Register.{Register}
use Rattle.pli_language.specs.declared.condition.Condition.TheVariants as C
use Rattle.pli_meaning.specs.Codes.{area_code}
use Rattle.pli_coding.specs.Allocating.{act_code}
use Rattle.pli_coding.specs.Arithmetic.{raised}
use Rattle.pli_coding.specs.Assembly.{Code, Plain}
use Rattle.pli_coding.specs.Environments.{Environment, none_taken}
use Rattle.pli_coding.specs.Frames.{display, own_offset}
use Rattle.pli_coding.specs.Instructions.{load_word, plus, service, skip_where, small}
use Rattle.pli_coding.specs.Registers.{a0, a1, a7, frame_register, zero_register}
use Rattle.pli_coding.specs.Statements.{stmt_code}
use Rattle.program_runs.proofs.Variables.{own_code}
use Rattle.expression_runs.specs.Variables.{Spot}
use Rattle.variable_runs.specs.Known.{place_of}
use Rattle.area_assignments.specs.Copying.{copying}
use Rattle.area_assignments.specs.Emptying.{emptying}

-- a place of a frame, by whether that is the running one
abbrev place_code : Register → (level : ℕ) → Bool → (place : ℕ) → Code
place_code r level q place =
    cond q [] (load_word r frame_register (display level))
    ++ (load_word r (cond q frame_register r) own_offset ++ plus r r (pos place))

-- behind what is named
abbrev pub asked : (n : ℕ) → Code
asked n = small a7 n ∷ Plain I.Ecall ∷ []

abbrev pub refused : Code
refused = raised C.Area area_code

abbrev pub emptied_by : (area : ℕ) → Code
emptied_by area = own_code a0 area ++ asked 13

abbrev pub copied_by : (target source : ℕ) → Code
copied_by target source =
    own_code a0 target
    ++ (own_code a1 source
    ++ (small a7 12 ∷ Plain I.Ecall ∷ skip_where Test.Equal a1 zero_register refused))

pub emptying_coded :
    (e : Environment) (x : Spot) (line : ℕ) → (x.level == e.level) ≡ true →
    stmt_code e none_taken (emptying x line) ≡ act_code line ++ emptied_by (place_of e x)
emptying_coded e x line own =
    ap (λ q. act_code line ++ (place_code a0 x.level q (place_of e x) ++ asked 13)) own

pub copying_coded :
    (e : Environment) (x y : Spot) (line : ℕ) → (x.level == e.level) ≡ true → (y.level == e.level) ≡ true →
    stmt_code e none_taken (copying x y line) ≡ act_code line ++ copied_by (place_of e x) (place_of e y)
copying_coded e x y line own mine =
    ap (λ q. by q (y.level == e.level)) own ∙ ap (λ q. by true q) mine
  where
    by : Bool → Bool → Code
    by q r =
        act_code line
        ++ (place_code a0 x.level q (place_of e x)
        ++ (place_code a1 y.level r (place_of e y)
        ++ (small a7 12 ∷ Plain I.Ecall ∷ skip_where Test.Equal a1 zero_register refused)))

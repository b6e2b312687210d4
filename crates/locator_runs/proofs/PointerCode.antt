-- The code of assignments to POINTER variables of the running frame.
use Rattle.std.proofs.Common.{◌≡◌, ℕ, ◌+◌, ◌++◌, [], Bool, Option, Some, None, true, ap, ◌∙◌}
use Rattle.std.specs.Prelude.{ℤ, cond, pos, ◌==◌, unwrap_or, if◌then◌else◌}
use Rattle.pli_typing.specs.TypedTree as Y
use Rattle.pli_meaning.specs.DeclaredShapes.{declared_variable}
use Rattle.pli_coding.specs.Allocating.{act_code}
use Rattle.pli_coding.specs.Assembly.{Code}
use Rattle.pli_coding.specs.Environments.{Environment, Taken, no_declaration, none_taken}
use Rattle.pli_coding.specs.Expressions.{null_name}
use Rattle.pli_coding.specs.Frames.{automatic_place, display, has_constant_size}
use Rattle.pli_coding.specs.Locating.{Address, FrameName, NamePlace, found_reached, frame_found, frame_in, in_own_frame}
use Rattle.pli_coding.specs.Locating.{leaf_number, leaf_place, name_copied, own_name}
use Rattle.pli_coding.specs.Instructions.{load_word}
use Rattle.pli_coding.specs.Registers.{frame_register, u3}
use Rattle.pli_coding.specs.Statements.{stmt_code}
use Rattle.pli_coding.specs.Storing.{name_assigned}
use Rattle.expression_runs.specs.Variables.{Spot, variable_of, whole, whole_part}
use Rattle.variable_runs.specs.Known.{place_of}
use Rattle.area_runs.specs.Based.{pointer_declared}
use Rattle.area_runs.proofs.BasedCode.{name_at_place}
use Rattle.locator_runs.specs.Pointers.{assignment}

abbrev declared_in : Option Y.DeclaredVariable → Y.DeclaredVariable
declared_in o = unwrap_or o no_declaration

-- ---- the place of a name

abbrev pub standing_by : Environment → Spot → Option Y.DeclaredVariable → Option NamePlace
standing_by e x o =
    if has_constant_size (declared_in o)
    then Some (FrameName x.level (pos (place_of e x + 16 + leaf_place (declared_in o) 0))) else None

abbrev pub placed_by : Environment → Spot → Bool → Option ℤ
placed_by e x q = if q then Some (pos (name_at_place e x)) else None

-- it is a constant
pub own_placed :
    (e : Environment) (x : Spot) → declared_variable e.program (variable_of x) ≡ Some pointer_declared →
    (x.level == e.level) ≡ true →
    own_name e (standing_by e x (declared_variable e.program (variable_of x))) ≡ Some (pos (name_at_place e x))
own_placed e x declared own =
    ap (λ o. own_name e (standing_by e x o)) declared ∙ ap (placed_by e x) own

-- ---- the sources

abbrev pub address_from : Environment → Spot → Option Y.DeclaredVariable → Address
address_from e x o =
    record {
      register = if has_constant_size (declared_in o) then frame_in e x.level u3 else u3;
      displacement = pos (if has_constant_size (declared_in o)
          then automatic_place e.parts e.program x.block x.level x.index + 16 + leaf_place (declared_in o) 0 else 0);
    }

abbrev pub reached_from : Environment → Taken → Spot → Option Y.DeclaredVariable → Code
reached_from e t x o =
    if has_constant_size (declared_in o) then frame_found e x.level u3 ++ []
    else found_reached e t t (variable_of x) whole_part (leaf_number e (variable_of x) 0) Y.NoNumber

-- the name of one variable of the frame goes to another place of it
abbrev pub copied_code : (from to : ℕ) → Code
copied_code from to = name_copied (in_own_frame (pos from)) (in_own_frame (pos to))

abbrev pub found_by : Environment → Spot → Bool → Code
found_by e x q = cond q [] (load_word u3 frame_register (display x.level)) ++ []

-- ---- the statements

pub null_coded :
    (e : Environment) (x : Spot) (line : ℕ) →
    declared_variable e.program (variable_of x) ≡ Some pointer_declared → (x.level == e.level) ≡ true →
    stmt_code e none_taken (assignment x Y.NullPointer line)
    ≡ act_code line ++ null_name (pos (name_at_place e x))
null_coded e x line declared own =
    ap (λ o. act_code line ++ name_assigned e none_taken (whole x) Y.NullPointer o) (own_placed e x declared own)

pub copy_coded :
    (e : Environment) (x y : Spot) (line : ℕ) →
    declared_variable e.program (variable_of x) ≡ Some pointer_declared → (x.level == e.level) ≡ true →
    declared_variable e.program (variable_of y) ≡ Some pointer_declared → (y.level == e.level) ≡ true →
    stmt_code e none_taken (assignment x (Y.PointerIn (whole y)) line)
    ≡ act_code line ++ copied_code (name_at_place e y) (name_at_place e x)
copy_coded e x y line declared own declared' own' =
    ap (λ o. act_code line ++ name_assigned e none_taken (whole x) (Y.PointerIn (whole y)) o)
    (own_placed e x declared own)
    ∙ ap (λ o. act_code line
    ++ (reached_from e none_taken y o ++ name_copied (address_from e y o) (in_own_frame (pos (name_at_place e x)))))
    declared'
    ∙ ap (λ q. act_code line
    ++ (found_by e y q
    ++ name_copied (record { register = cond q frame_register u3; displacement = pos (name_at_place e y) })
    (in_own_frame (pos (name_at_place e x))))) own'

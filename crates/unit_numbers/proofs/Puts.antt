-- Statements that write numbers by format lists: they raise nothing for which the main procedure has a unit, so what is
-- known around them is known while a place in a format list is in use, too.
use Rattle.std.proofs.Common.{◌≡◌, ℕ, ◌+◌, ◌*◌, ◌^◌, ◌<◌, List, [], ◌∷◌, true, false, refl, sym}
use Rattle.std.proofs.Common.{◌∙◌, arith}
use Rattle.pli_language.specs.declared.condition.Condition.TheVariants as C
use Rattle.pli_typing.specs.TypedTree as Y
use Rattle.pli_meaning.specs.StorageState.{force}
use Rattle.pli_serving.specs.ServiceState.{EditPlace}
use Rattle.pli_coding.specs.Assembly.{RaiseError}
use Rattle.pli_coding.specs.Linking.{place_of}
use Rattle.activation_relation.specs.Layers.{Point}
use Rattle.activation_relation.specs.ServiceLaws.{IsSystem}
use Rattle.program_runs.specs.Statements.{Block, IsBegun}
use Rattle.condition_codes.specs.Codes.{HasCode}
use Rattle.expression_runs.specs.Assignments.{setting_around}
use Rattle.expression_runs.specs.Raises.{Routines}
use Rattle.expression_runs.specs.Variables.{IsNumber, Spot}
use Rattle.expression_runs.proofs.Raises.{overflow_ends}
use Rattle.operator_runs.proofs.Divisors.{zero_divide_ends}
use Rattle.array_runs.specs.Arrays.{Grid, IsArray}
use Rattle.element_runs.proofs.Outside.{subscripts_end}
use Rattle.text_runs.proofs.Errors.{error_ends}
use Rattle.edit_runs.specs.Edits.{placing, within}
use Rattle.edit_runs.proofs.Places.{begun_placed, number_placed}
use Rattle.block_headlines.specs.Constants.{IsOf}
use Rattle.block_headlines.proofs.Constants.{main_of_program}
use Rattle.number_runs.specs.Knowledge.{KnowsLists, KnowsPuts}
use Rattle.number_runs.specs.Numbers.{Scope, grid_known, is_array_known, is_known, is_narrow_known, is_received}
use Rattle.number_runs.specs.Numbers.{type_known}
use Rattle.number_runs.proofs.Puts.{narrow_placed}
use Rattle.number_runs.proofs.Received.{parameter_placed}
use Rattle.parameter_runs.specs.Around.{IsParameterAround}
use Rattle.scalar_runs.specs.Scalars.{IsScalar}
use Rattle.phase_runs.specs.Units.{Past, past_point}
use Rattle.unit_numbers.proofs.Mains.{Main, block_for, run_for}
use Rattle.unit_numbers.proofs.Past.{main_past}

-- ---- static data

pub past_constants : (past : Past) (p : Point) → (past_point past p).places.constants ≡ p.places.constants
past_constants [] p = refl
past_constants (e ∷ past) p = past_constants past p

-- what the program tells of its static data is told there, whatever units it has by then
pub main_told :
    {program : Y.Program} (m : Main program) (input : List ℕ) (acts : ℕ) (past : Past) →
    IsBegun (block_for m input acts) → IsOf program (main_past m input acts past)
main_told {program} m input acts past b =
    let k = block_for m input acts in
    let o = main_of_program program (run_for m input acts) k refl refl refl b in
    record { code = o.code; links = o.links; constants = past_constants past k.first ∙ o.constants }

-- ---- while a place is in use

-- an array of a block is one there
pub array_placed :
    (k : Block) (place : EditPlace) (x : Spot) (b : Grid) → IsArray k x b → IsArray (placing place k) x b
array_placed k place x b is =
    let h = is.known in
    record {
      initial = is.initial;
      known = record {
        declared = h.declared;
        serial = h.serial;
        binding = h.binding;
        living = h.living;
        lives = h.lives;
        shape = h.shape;
        base = h.base;
        frame = h.frame;
        at = h.at;
        low = h.low;
        inside = h.inside;
      };
      type = is.type;
      bounds = is.bounds;
      some = is.some;
    }

-- a block in which what a scope lets expressions raise ends the run
pub record IsSettled (s : Scope) (k : Block) (most : ℕ) : Type 0 where
  pub begun : IsBegun k
  pub routines : Routines k.call.surroundings.links k.call.code
  pub place : place_of k.call.surroundings.links RaiseError ≡ 4 * (routines.at + 8)
  pub overflow : s.overflows ≡ true → IsSystem (force k.first.state.activations C.FixedOverflow)
  pub divisor : s.divides ≡ true → IsSystem (force k.first.state.activations C.ZeroDivide)
  pub error : IsSystem (force k.first.state.activations C.Error)
  pub acts : k.call.surroundings.acts + 1 < 2 ^ 64
  pub few : 18 < most
  pub variables : (x : Spot) → is_known s x ≡ true → IsNumber k x
  pub arrays : s.elements ≡ true → (x : Spot) → is_array_known s x ≡ true → IsArray k x (grid_known s x)
  pub narrows : s.narrows ≡ true → (x : Spot) → is_narrow_known s x ≡ true → IsScalar k x (type_known s x)
  pub parameters : (x : Spot) → is_received s x ≡ true → IsParameterAround k x
  pub code : HasCode k
  -- without texts
  pub wordless : s.texts ≡ false
  -- and what is BASED
  pub unlocated : s.locates ≡ false
  pub lists : KnowsLists k

-- there numbers may be written
pub settled_writes : (s : Scope) (k : Block) (most : ℕ) → IsSettled s k most → KnowsPuts s k most
settled_writes s k most h =
    let few = h.few in
    record {
      numbers = λ words may place labels line.
          let w = within place (setting_around words k labels line most) in
          record {
            begun = begun_placed k place h.begun;
            overflow = λ raises. overflow_ends w (record {
              routines = h.routines;
              overflow = h.overflow raises;
              error = h.error;
              acts = h.acts;
              most = h.few;
            });
            divisor = λ raises. zero_divide_ends w (record {
              routines = h.routines;
              divisor = h.divisor raises;
              error = h.error;
              acts = h.acts;
              most = h.few;
            });
            subscript = λ raises. subscripts_end w (record {
              routines = h.routines;
              place = h.place;
              error = h.error;
              acts = h.acts;
              most = h.few;
            });
            variables = λ x is. number_placed k place x (h.variables x is);
            arrays = λ raises x is. array_placed k place x (grid_known s x) (h.arrays raises x is);
            narrows = λ may x is. narrow_placed k place x (type_known s x) (h.narrows may x is);
            parameters = λ x is. parameter_placed k place x (h.parameters x is);
            texts = λ may. absurd (cc (sym h.wordless ∙ may));
            given = λ may. absurd (cc may);
            pointers = λ may. absurd (cc may);
            located = λ may. absurd (cc may);
            codes = λ may. h.code;
            functions = λ level n is. absurd (cc is);
          };
      error = λ words may place labels line.
          error_ends (List ℕ) (within place (setting_around words k labels line most)) (record {
            routines = h.routines;
            raises = h.place;
            error = h.error;
            acts = h.acts;
            most = omega (arith, few);
          });
      lists = h.lists;
      located = λ may. absurd (cc (sym h.unlocated ∙ may));
    }

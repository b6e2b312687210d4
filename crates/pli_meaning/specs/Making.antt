-- How generations come about: extents, AUTOMATIC and STATIC variables, arguments. (X3.53-1976, chapter 7, allocation.)
use Rattle.std.specs.Prelude.{ℕ, ◌+◌, ℤ, pos, int_le, Bool, true, ◌&&◌, List, [], ◌∷◌, ◌++◌, None, nat_le}
use Rattle.pli_meaning.specs.declared.outcome.End.TheVariants as E
use Rattle.pli_meaning.specs.declared.outcome.Limit.TheVariants as L
use Rattle.pli_meaning.specs.World.{counted}
use Rattle.pli_typing.specs.Signatures.{LeafKind, Bounds, scalar}
use Rattle.pli_typing.specs.TypedTree as Y
use Rattle.pli_meaning.specs.Texts.{most_text}
use Rattle.pli_meaning.specs.BasicValues.{Name, VariableName, BasicValue, BasicText}
use Rattle.pli_meaning.specs.Contents.{Shape, Generation, footprint_of, fresh, kept}
use Rattle.pli_meaning.specs.StorageState.{State, Living, Binding, Activation, newest_height, automatic_in_use, most_automatic}
use Rattle.pli_meaning.specs.Control.{Meaning, give, stuck, ◌>>=◌, ◌>>◌, looked, stored, act, finish, choose}
use Rattle.pli_meaning.specs.Codes.{extent_code}
use Rattle.pli_meaning.specs.Raising.{Around, Passed, PassedName, PassedValue, demanded}
use Rattle.pli_meaning.specs.DeclaredShapes.{bounds_of, shape_of, initial_of}
use Rattle.pli_meaning.specs.Evaluating.{number}

-- ---- extents

abbrev pub in_order : Bounds → Bool
in_order b = int_le b.lower b.upper

abbrev pub is_length : ℤ → Bool
is_length z = int_le (pos 0) z && int_le z (pos most_text)

-- what is checked behind an extent, where these are the values so far
abbrev pub extent_holds : List ℤ → Y.Check → ℤ → Bool
extent_holds values Y.NoCheck z = true
extent_holds values Y.LengthCheck z = is_length z
extent_holds values Y.SizeCheck z = int_le (pos 0) z
extent_holds values (Y.BoundsCheck b) z = in_order (bounds_of values b)

unfoldable pub evaluations : Around → List ℤ → List Y.Evaluation → Meaning (List ℤ)
evaluations around values [] = give values
evaluations around values (e ∷ es) = do
  z ← number around e.value
  demanded around extent_code (extent_holds (values ++ z ∷ []) e.check z)
  evaluations around (values ++ z ∷ []) es

-- the extents of one variable that aren't constant; their evaluation is an act
unfoldable pub extents : Around → List Y.Evaluation → Meaning (List ℤ)
extents around [] = give []
extents around (e ∷ es) = do
  act counted
  evaluations around [] (e ∷ es)

-- ---- AUTOMATIC variables and arguments

abbrev pub with_binding : Binding → List Activation → List Activation
with_binding b [] = []
with_binding b (a ∷ as') = record a { bindings = b ∷ a.bindings } ∷ as'

abbrev pub bound : (variable : ℕ) → Name → Shape → State → State
bound variable n shape s =
    record s { activations = with_binding (record { variable = variable; name = n; shape = shape }) s.activations }

abbrev pub living_at : ℕ → (owner : ℕ) → Generation → Living
living_at serial owner g = record { serial = serial; owner = owner; generation = g; placed = [] }

-- one more generation, with a new serial, of the newest activation
abbrev pub with_living : Generation → State → State
with_living g s =
    record s { serials = s.serials + 1; living = living_at (s.serials + 1) (newest_height s.activations) g ∷ s.living }

abbrev pub with_variable : (variable : ℕ) → Generation → State → State
with_variable variable g s = bound variable (VariableName (s.serials + 1)) g.shape (with_living g s)

-- one that passes the limit ends the run
unfoldable pub variable_made : (variable : ℕ) → Generation → Meaning (Unit {0})
variable_made variable g = do
  s ← looked
  choose (nat_le (automatic_in_use s.living + footprint_of g) most_automatic)
      (stored (with_variable variable g))
      (finish (E.Limit L.Automatic))

-- in declared order
unfoldable pub automatic_made : Around → (variable : ℕ) → Y.DeclaredVariable → Y.StorageClass → Meaning (Unit {0})
automatic_made around variable d Y.AutomaticClass = do
  values ← extents around d.evaluations
  variable_made variable (fresh (shape_of values d) (pos 0) (initial_of d))
automatic_made around variable d _ = give tt

unfoldable pub variables_made : Around → (variable : ℕ) → List Y.DeclaredVariable → Meaning (Unit {0})
variables_made around variable [] = give tt
variables_made around variable (d ∷ ds) = do
  automatic_made around variable d d.class
  variables_made around (variable + 1) ds

abbrev pub plain : LeafKind → Shape
plain kind = record { signature = scalar kind; refer = None }

abbrev pub copy_of : LeafKind → BasicValue → Generation
copy_of kind v = record { shape = plain kind; extent = pos 0; values = λ leaf subscripts. kept kind (BasicText []) v }

-- a parameter stands for what is passed by reference, or for a copy
unfoldable pub parameter_bound : (variable : ℕ) → Passed → Meaning (Unit {0})
parameter_bound variable (PassedName n shape) = stored (bound variable n shape)
parameter_bound variable (PassedValue kind v) = variable_made variable (copy_of kind v)

unfoldable pub parameters_bound : (variables : List ℕ) → List Passed → Meaning (Unit {0})
parameters_bound [] [] = give tt
parameters_bound (v ∷ vs) (p ∷ ps) = do
  parameter_bound v p
  parameters_bound vs ps
parameters_bound _ _ = stuck

-- ---- STATIC variables

abbrev pub with_static : (block variable : ℕ) → Generation → State → State
with_static block variable g s =
    record s {
      serials = s.serials + 1;
      living = living_at (s.serials + 1) 0 g ∷ s.living;
      statics =
          record {
            block = block;
            binding = record { variable = variable; name = VariableName (s.serials + 1); shape = g.shape };
          }
          ∷ s.statics;
    }

abbrev pub static_made : (block variable : ℕ) → Y.DeclaredVariable → Y.StorageClass → State → State
static_made block variable d Y.StaticClass s = with_static block variable (fresh (shape_of [] d) (pos 0) (initial_of d)) s
static_made block variable d _ s = s

abbrev pub statics_of_block : (block variable : ℕ) → List Y.DeclaredVariable → State → State
statics_of_block block variable [] s = s
statics_of_block block variable (d ∷ ds) s = statics_of_block block (variable + 1) ds (static_made block variable d d.class s)

-- block by block
abbrev pub statics_from : (block : ℕ) → List (List Y.DeclaredVariable) → State → State
statics_from block [] s = s
statics_from block (ds ∷ rest) s = statics_from (block + 1) rest (statics_of_block block 0 ds s)

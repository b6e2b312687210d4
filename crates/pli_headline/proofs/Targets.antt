-- What a value in a register is assigned to: a scalar of the block, or an element of an array.
use Rattle.std.proofs.Common.{◌≡◌, ℕ, suc, ◌+◌, ◌≤◌, inl, inr, List, ◌∷◌, length, Some, ap, ◌∙◌, arith}
use Rattle.std.specs.Prelude.{ℤ, slice_get}
use Rattle.rv_meaning.specs.declared.instr.Instr.{Instr}
use Rattle.rv_meaning.specs.Words.{word}
use Rattle.pli_typing.specs.Signatures.{Bounds}
use Rattle.pli_typing.specs.TypedTree as Y
use Rattle.pli_meaning.specs.BasicValues.{BasicValue}
use Rattle.pli_meaning.specs.Contents.{element_place}
use Rattle.pli_meaning.specs.DeclaredShapes.{variables_of_block}
use Rattle.pli_meaning.specs.StorageState.{State}
use Rattle.pli_meaning.specs.Raising.{Around}
use Rattle.pli_meaning.specs.Streaming as P
use Rattle.pli_meaning.specs.Executing as M
use Rattle.pli_serving.specs.ServiceState.{Services}
use Rattle.pli_coding.specs.Assembly.{size_of}
use Rattle.pli_coding.specs.Environments.{Environment}
use Rattle.pli_coding.specs.Expressions.{given_in, type_in}
use Rattle.pli_coding.specs.Storing.{word_stored}
use Rattle.pli_coding.specs.Linking.{Links}
use Rattle.temporary_bounds.specs.WordBounds.{subscripts_words}
use Rattle.temporary_bounds.specs.Spare.{spare}
use Rattle.pli_headline.specs.ProvedSoFar.{Names, Types, Kind, alone, IsAssigned, IsProvedNumber, AreProvedNumbers, IsPart}
use Rattle.pli_headline.proofs.Storages.{storage, Storage}
use Rattle.run_steps.specs.Engine.{Base}
use Rattle.run_steps.specs.Items.{Linked, At}
use Rattle.run_steps.specs.Bodies.{Known}
use Rattle.run_steps.specs.Temporaries.{Stays, nothing}
use Rattle.pli_headline.proofs.Serving.{Serving}
use Rattle.pli_headline.proofs.Operators.{valued}
use Rattle.pli_headline.proofs.Scalars.{IsNumeric, Values, Fits, fits_numeric, value_as}
use Rattle.pli_headline.proofs.Variables.{HasTypes, IsDeclared, whole, own, whole_part, type_by}
use Rattle.pli_headline.proofs.States.{with_number_at}
use Rattle.pli_headline.proofs.Assignments.{assigned_state, stored_piece}
use Rattle.pli_headline.proofs.Expressions.{subscripts_do}
use Rattle.pli_headline.proofs.ArrayPlaces.{count_some}
use Rattle.pli_headline.proofs.ArrayMeant.{element, element_state}
use Rattle.pli_headline.proofs.ArrayElements.{IsDeclaredArray, element_stored_piece}
use Rattle.pli_headline.proofs.ArrayScopes.{IsArrayAt, with_element_of, array_scope}
use Rattle.pli_headline.proofs.Statements.{Block, Standing, AllHold, scope_of, assigned_all}
use Rattle.pli_headline.proofs.ElementAssignments.{element_all, setting_at}
use Rattle.run_steps.specs.Reach.{Family, Aims, Comes, Closed}

-- ---- its type

-- in the code
pub own_type : (e : Environment) (block : Names) (j : ℕ) (type : Y.LeafType) → IsDeclared e block j type → type_in e (whole (own block j)) ≡ type
own_type e block j type declared = ap type_by declared.1

pub element_type : (e : Environment) (block : Names) (j : ℕ) (type : Y.LeafType) (bs : List Bounds) (first : Y.Number) (rest : Y.Numbers) → IsDeclaredArray e block j type bs → type_in e (element block j first rest) ≡ type
element_type e block j type bs first rest declared = ap type_by declared.1

pub part_type : (e : Environment) (block : Names) (types : Types) (type : Y.LeafType) (r : Y.Reference) → HasTypes e block types → IsPart block types type r → type_in e r ≡ type
part_type e block types type r has (inl o) =
    ap (type_in e) o.is ∙ own_type e block o.index type (has o.index (alone type) o.declared)
part_type e block types type r has (inr o) =
    let kind : Kind = record { type = type; bounds = o.bound ∷ o.bounds } in
    ap (type_in e) o.is ∙ element_type e block o.index type (o.bound ∷ o.bounds) o.first o.rest (has o.index kind o.declared)

-- and in the meaning
pub element_target : (e : Environment) (around : Around) (block : Names) (j : ℕ) (type : Y.LeafType) (bs : List Bounds) (first : Y.Number) (rest : Y.Numbers) → around.program ≡ e.program → IsDeclaredArray e block j type bs → P.target_type around (element block j first rest) ≡ Some type
element_target e around block j type bs first rest same declared =
    ap (λ q. P.type_of_first whole_part (slice_get (variables_of_block q (block.at j).number) (block.at j).index)) same
    ∙ ap (P.type_of_first whole_part) declared.1

-- ---- it is read

pub assigned_read : (block : Names) (types : Types) (p : ℕ) (r : Y.Reference) → IsAssigned block types (Y.FixedLeaf p) r → IsProvedNumber block types (Y.NumberIn r)
assigned_read block types p (Y.Referring v locator part subscripts) is = (record { precision = p; part = is.0 }, is.1)

-- ---- it takes a value

pub record Takes {e : Environment} {block : Names} {types : Types} (bl : Block e block types) (links : Links) (code : List Instr) (r : Y.Reference) (type : Y.LeafType) : Type 1 where
  pub old : (s : State) (xs : Storage) (n : Values) → AllHold bl.frames bl.serials xs (e.level ∷ bl.depths) s block types n → (z : ℤ) × Fits type z
  pub does : {i : ℕ} {v : Services} {h t : ℕ → ℕ} {s : State} {aims : Aims (Unit {0})} (closed : Closed code aims) (f : Family) (around : Around) (z : ℤ) (n : Values) (k : ℕ) → Fits type z → Linked links code i (word_stored e bl.taken r) → Serving k s v around.line → AllHold bl.frames bl.serials (storage v) (e.level ∷ bl.depths) s block types n → ((b : Base) → At b i (Known (bl.ground n) v h t (valued (word z)) b) (f b)) → ((s' : State) (n' : Values) (h' t' : ℕ → ℕ) (f' : Family) → Serving k s' v around.line → AllHold bl.frames bl.serials (storage v) (e.level ∷ bl.depths) s' block types n' → Stays bl.taken h t h' t' → ((b : Base) → At b (i + size_of (word_stored e bl.taken r)) (Known (bl.ground n') v h' t' nothing b) (f' b)) → aims.done (i + size_of (word_stored e bl.taken r)) f' v tt s') → Comes code i f v aims (M.assigned around r (value_as type z) k s)

scalar_serving : {k : ℕ} {s : State} {v : Services} {line : ℕ} (type : Y.LeafType) (j : ℕ) (values : ℕ → List ℤ → BasicValue) (z : ℤ) → Serving k s v line → Serving k (assigned_state s type j values z) v line
scalar_serving type j values z o =
    record { world = o.world; running = o.running; line_is = o.line_is; input = o.input; allowed = o.allowed; fits = o.fits; nested = o.nested; waiting = o.waiting; places = o.places }

pub scalar_takes : {e : Environment} {block : Names} {types : Types} (bl : Block e block types) (links : Links)
    (code : List Instr) (j : ℕ) {type : Y.LeafType} (below : slice_get types j ≡ Some (alone type)) → IsNumeric type
    → bl.taken.words + 1 ≤ bl.words + spare bl.taken → Takes bl links code (whole (own block j)) type
scalar_takes {e} {block} {types} bl links code j {type} below numeric room =
    record {
      old = λ s xs n hold. (n.numbers j, (hold.numbers j (type, below) numeric).fits);
      does = λ {i} {v} {h} {t} {s} {aims} closed f around z n k fits l serving hold at goal.
          let mine = hold.numbers j (type, below) (fits_numeric type z fits) in
          stored_piece (bl.ground (with_number_at n j z)) closed i e block types n f around bl.taken j z k below fits
          (scope_of bl n hold)
          (λ b h'. bl.same n (with_number_at n j z) b h') (λ t' b m len o. bl.writes n j z below mine.fits fits t' b m len o) l at
          (λ f1 h1 t1 stays1 at1. goal (assigned_state s type (bl.serials.of j) mine.values z) (with_number_at n j z) h1 t1 f1 (scalar_serving type (bl.serials.of j) mine.values z serving) (assigned_all j z below fits hold) stays1 at1);
    }

element_serving : {k : ℕ} {s : State} {v : Services} {line : ℕ} (type : Y.LeafType) (bs : List Bounds) (serial : ℕ) (values : ℕ → List ℤ → BasicValue) (is : List ℤ) (z : ℤ) → Serving k s v line → Serving k (element_state s type bs serial values is z) v line
element_serving type bs serial values is z o =
    record { world = o.world; running = o.running; line_is = o.line_is; input = o.input; allowed = o.allowed; fits = o.fits; nested = o.nested; waiting = o.waiting; places = o.places }

pub element_takes : {e : Environment} {block : Names} {types : Types} (bl : Block e block types) (links : Links)
    (code : List Instr) (routines : Standing bl links code) (j : ℕ) {type : Y.LeafType} (b : Bounds) (bs : List Bounds)
    (first : Y.Number) (rest : Y.Numbers) (below : IsArrayAt types j type b bs) → given_in rest ≡ length bs
    → AreProvedNumbers block types (Y.NumberThen first rest)
    → bl.taken.words + suc (subscripts_words (Y.NumberThen first rest)) ≤ bl.words + spare bl.taken
    → Takes bl links code (element block j first rest) type
element_takes {e} {block} {types} bl links code routines j {type} b bs first rest below many are room =
    let xs = Y.NumberThen first rest in
    let on = bl.arrays j type b bs below in
    record {
      old = λ s xs n hold. (n.arrays j 0, (hold.arrays j type b bs below).fits 0 (count_some (b ∷ bs) on.bounds));
      does = λ {i} {v} {h} {t} {s} {aims} closed f around z n k fits l serving hold at goal.
          let w = bl.words_are n in
          let mine = hold.arrays j type b bs below in
          element_stored_piece (λ p. bl.ground (with_element_of n j p z)) closed routines.raises (bl.temps n) (array_scope on n mine (bl.reaches n j below.0)) f around bl.taken z k (subscripts_words xs) first rest
          (subscripts_do xs (setting_at bl routines around n hold serving) are) (ap (λ m. suc m) many) fits
          (omega (arith, room, w)) serving
          (λ p base h'. bl.same n (with_element_of n j p z) base h')
          (λ p inside t' base m len o. on.writes n p z inside (mine.fits p inside) fits t' base m len o) l at
          (λ is f1 h1 t1 inside stays1 at1.
          goal (element_state s type (b ∷ bs) (bl.serials.of j) mine.values is z) (with_element_of n j (element_place (b ∷ bs) is) z) h1 t1 f1 (element_serving type (b ∷ bs) (bl.serials.of j) mine.values is z serving) (element_all j is z below inside fits hold) stays1 at1);
    }

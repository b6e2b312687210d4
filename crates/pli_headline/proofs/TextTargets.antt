-- What takes the text on top of the others: a variable that holds texts, or an element of an array of texts.
use Rattle.std.proofs.Common.{◌≡◌, ℕ, ◌+◌, ◌≤◌, List, ◌∷◌, length, Bool}
use Rattle.std.specs.Prelude.{ℤ}
use Rattle.rv_meaning.specs.declared.instr.Instr.{Instr}
use Rattle.pli_typing.specs.Signatures.{Bounds}
use Rattle.pli_typing.specs.TypedTree as Y
use Rattle.pli_meaning.specs.BasicValues.{BasicValue, BasicText}
use Rattle.pli_meaning.specs.StorageState.{State}
use Rattle.pli_meaning.specs.Raising.{Around}
use Rattle.pli_meaning.specs.Executing as M
use Rattle.pli_serving.specs.ServiceState.{Services, TextEntry}
use Rattle.pli_serving.specs.Outcomes.{pushed}
use Rattle.pli_coding.specs.Assembly.{size_of}
use Rattle.pli_coding.specs.Environments.{Environment}
use Rattle.pli_coding.specs.Expressions.{given_in}
use Rattle.pli_coding.specs.Storing.{top_stored}
use Rattle.pli_coding.specs.Linking.{Links}
use Rattle.temporary_bounds.specs.WordBounds.{subscripts_words}
use Rattle.temporary_bounds.specs.Spare.{spare}
use Rattle.pli_headline.specs.ProvedSoFar.{Names, Types, AreProvedNumbers, text_leaf}
use Rattle.pli_headline.proofs.Storages.{storage}
use Rattle.run_steps.specs.Engine.{Base}
use Rattle.pli_headline.proofs.Scalars.{Values}
use Rattle.run_steps.specs.Items.{Linked, At}
use Rattle.run_steps.specs.Bodies.{Known}
use Rattle.run_steps.specs.Temporaries.{Stays, nothing}
use Rattle.run_steps.proofs.Temporaries.{stays_same}
use Rattle.pli_headline.proofs.Serving.{Serving}
use Rattle.pli_headline.proofs.Variables.{whole, own}
use Rattle.pli_headline.proofs.States.{with_text_at}
use Rattle.pli_headline.proofs.ArrayMeant.{element}
use Rattle.pli_headline.proofs.TextScopes.{IsTextAt}
use Rattle.pli_headline.proofs.TextsKept.{text_kept_as}
use Rattle.pli_headline.proofs.TextVariables.{text_state}
use Rattle.pli_headline.proofs.TextAssignments.{assigned_piece, text_assigned_all}
use Rattle.pli_headline.proofs.TextArrayScopes.{IsTextArrayAt}
use Rattle.pli_headline.proofs.TextElementAssignments.{element_assigned_piece}
use Rattle.pli_headline.proofs.Statements.{Block, Standing, AllHold}
use Rattle.run_steps.specs.Reach.{Family, Aims, Comes, Closed}

pub record TakesText {e : Environment} {block : Names} {types : Types} (bl : Block e block types) (links : Links) (code : List Instr) (r : Y.Reference) : Type 1 where
  pub does : {i : ℕ} {v : Services} {h t : ℕ → ℕ} {s : State} {aims : Aims (Unit {0})} (closed : Closed code aims) (f : Family) (around : Around) (text : List ℕ) (n : Values) (k : ℕ) → Linked links code i (top_stored e bl.taken r) → Serving k s v around.line → AllHold bl.frames bl.serials (storage v) (e.level ∷ bl.depths) s block types n → ((b : Base) → At b i (Known (bl.ground n) (pushed (TextEntry text) v) h t nothing b) (f b)) → ((s' : State) (n' : Values) (h' t' : ℕ → ℕ) (f' : Family) → Serving k s' v around.line → AllHold bl.frames bl.serials (storage v) (e.level ∷ bl.depths) s' block types n' → Stays bl.taken h t h' t' → ((b : Base) → At b (i + size_of (top_stored e bl.taken r)) (Known (bl.ground n') v h' t' nothing b) (f' b)) → aims.done (i + size_of (top_stored e bl.taken r)) f' v tt s') → Comes code i f (pushed (TextEntry text) v) aims (M.assigned around r (BasicText text) k s)

text_serving : {k : ℕ} {s : State} {v : Services} {line : ℕ} (varying : Bool) (most serial : ℕ) (values : ℕ → List ℤ → BasicValue) (text : List ℕ) → Serving k s v line → Serving k (text_state s (text_leaf varying most) serial values text) v line
text_serving varying most serial values text o =
    record { world = o.world; running = o.running; line_is = o.line_is; input = o.input; allowed = o.allowed; fits = o.fits; nested = o.nested; waiting = o.waiting; places = o.places }

pub variable_takes : {e : Environment} {block : Names} {types : Types} (bl : Block e block types) (links : Links) (code : List Instr) (j : ℕ) (varying : Bool) (most : ℕ) → IsTextAt types j varying most → TakesText bl links code (whole (own block j))
variable_takes {e} {block} {types} bl links code j varying most below =
    record {
      does = λ {i} {v} {h} {t} {s} {aims} closed f around text n k l serving hold at goal.
          let values = (hold.texts j varying most below).values in
          assigned_piece bl closed f around j varying most text n k below l hold at
          (λ f1 at1.
          goal (text_state s (text_leaf varying most) (bl.serials.of j) values text) (with_text_at n j (text_kept_as varying most text)) h t f1 (text_serving varying most (bl.serials.of j) values text serving) (text_assigned_all j varying most text below (bl.texts.room.short j varying most below) hold) (stays_same bl.taken h t) at1);
    }

pub text_element_takes : {e : Environment} {block : Names} {types : Types} (bl : Block e block types) (links : Links)
    (code : List Instr) (routines : Standing bl links code) (j : ℕ) (varying : Bool) (most : ℕ) (b : Bounds)
    (bs : List Bounds) (first : Y.Number) (rest : Y.Numbers) → IsTextArrayAt types j varying most b bs
    → given_in rest ≡ length bs → AreProvedNumbers block types (Y.NumberThen first rest)
    → bl.taken.words + subscripts_words (Y.NumberThen first rest) ≤ bl.words + spare bl.taken
    → TakesText bl links code (element block j first rest)
text_element_takes bl links code routines j varying most b bs first rest below many are room =
    record {
      does = λ closed f around text n k l serving hold at goal.
          element_assigned_piece bl routines closed f around j varying most b bs first rest text n k below many are room l serving hold at goal;
    }

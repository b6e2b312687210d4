-- The typed tree of each accepted source is well formed.
use Rattle.std.proofs.Common.{◌≡◌, ℕ, suc, List, [], ◌∷◌, length, Some, sym, ◌∙◌, subst}
use Rattle.std.specs.Prelude.{slice_get}
use Rattle.pli_language.specs.declared.token.Token.{Token}
use Rattle.pli_language.specs.Tokens.{Tokens}
use Rattle.pli_language.specs.Parsing.{Spells}
use Rattle.pli_language.specs.Tree as T
use Rattle.pli_language.specs.Declaring.{declaring_faults}
use Rattle.pli_typing.specs.TypedTree as Y
use Rattle.pli_typing.specs.Resolving.{typing_faults, typed_tree}
use Rattle.well_formed_trees.specs.Every.{Every}
use Rattle.well_formed_trees.specs.Surroundings.{Around, Where, variables_of_block}
use Rattle.well_formed_trees.specs.Blocks.{procedure_numbers}
use Rattle.well_formed_trees.specs.Expressions.{SoundNumber}
use Rattle.well_formed_trees.specs.EarlyNumbers.{IsEarly}
use Rattle.well_formed_trees.specs.Declarations.{IsCheck, IsEvaluation, SoundVariables}
use Rattle.well_formed_trees.specs.WellFormed.{AreNumbered, AcceptedWellFormed}
use Rattle.well_formed_trees.specs.Held.{table_of}
use Rattle.well_formed_trees.specs.Structured.{IsStructured}
use Rattle.well_formed_trees.specs.SoundVariables.{HasSoundValues, HasSoundLeaves, HasSoundChecks}
use Rattle.well_formed_trees.proofs.BlocksHeld.{table_kept}
use Rattle.well_formed_trees.proofs.EntriesSound.{depths_kept}
use Rattle.well_formed_trees.proofs.HeadsInRange.{ranges_kept}
use Rattle.well_formed_trees.proofs.MainProcedure.{main_kept}
use Rattle.well_formed_trees.proofs.ProgramNumbers.{numbers_kept, lists_kept, outermost_kept}
use Rattle.well_formed_trees.proofs.Shapes.{shape_kept}
use Rattle.well_formed_trees.proofs.TableNests.{nesting_kept}
use Rattle.well_formed_trees.proofs.SoundProcedures.{accepted_procedures}
use Rattle.well_formed_trees.proofs.StructuredVariables.{accepted_variables}
use Rattle.well_formed_trees.proofs.EvaluationsSound.{accepted_evaluations, where_of}
use Rattle.well_formed_trees.proofs.LeavesSound.{accepted_leaves}
use Rattle.well_formed_trees.proofs.ChecksSound.{accepted_checks}
use Rattle.well_formed_trees.proofs.EvaluationsEarly.{AreEarlyFrom, evaluations_kept}
use Rattle.well_formed_trees.proofs.ReferSound.{HasSoundRefer, refers_kept}

-- ---- variables

evaluations_are : (w : Where) (index many : ℕ) (es : List Y.Evaluation) → Every (λ e. SoundNumber w e.value) es
    → Every (λ e. IsEarly w index e.value) es → Every (λ e. IsCheck many e.check) es
    → Every (IsEvaluation w index many) es
evaluations_are w index many [] v e c = tt
evaluations_are w index many (x ∷ xs) v e c =
    (record { value = v.0; early = e.0; check = c.0 }, evaluations_are w index many xs v.1 e.1 c.1)

variables_are : (w : Where) (index : ℕ) (ds : List Y.DeclaredVariable) → Every IsStructured ds
    → Every (HasSoundLeaves w) ds → Every HasSoundRefer ds → Every (HasSoundValues w) ds → AreEarlyFrom w index ds
    → Every HasSoundChecks ds → SoundVariables w index ds
variables_are w index [] s l r v e c = tt
variables_are w index (d ∷ ds) s l r v e c = (
  record {
    members = s.0.members;
    many = s.0.many;
    dimensions = s.0.dimensions;
    leaves = l.0;
    areas = s.0.areas;
    refer = r.0.0;
    kept = r.0.1;
    evaluations = evaluations_are w index (length d.evaluations) d.evaluations v.0 e.0 c.0;
  },
  variables_are w (suc index) ds s.1 l.1 r.1 v.1 e.1 c.1,
)

variables_sound : (s : List ℕ) (tokens : List Token) (tree : T.Tree) → Tokens s tokens → Spells s tokens tree
    → declaring_faults tree ≡ [] → typing_faults tree ≡ [] → (number : ℕ) (around : List Around)
    → slice_get (table_of tree) number ≡ Some around
    → SoundVariables (where_of tree around) 0 (variables_of_block (typed_tree tree) number)
variables_sound s tokens tree t h declared typed number around f =
    variables_are (where_of tree around) 0 (variables_of_block (typed_tree tree) number)
    (accepted_variables s tokens tree t h declared typed number)
    (accepted_leaves s tokens tree t h declared typed number around f)
    (refers_kept s tokens tree t h declared typed number)
    (accepted_evaluations s tokens tree t h declared typed number around f)
    (evaluations_kept s tokens tree t h declared typed number around f)
    (accepted_checks s tokens tree t h declared typed number)

-- ---- the law

pub accepted_well_formed : AcceptedWellFormed
accepted_well_formed s tokens tree t h declared typed =
    let shape = shape_kept s tokens tree h in
    let ranges = ranges_kept s tokens tree t h in
    let many = table_kept tree in
    let program = typed_tree tree in
    record {
      table = table_of tree;
      main = main_kept tree shape ranges declared typed;
      numbers =
          subst (λ count. AreNumbered count (procedure_numbers program.procedures)) (sym many)
          (numbers_kept tree shape);
      entries = depths_kept tree ranges;
      nested = nesting_kept tree;
      procedures = accepted_procedures s tokens tree t h declared typed;
      lists = lists_kept tree ∙ sym many;
      outermost = outermost_kept tree;
      variables = λ number around f. variables_sound s tokens tree t h declared typed number around f;
    }

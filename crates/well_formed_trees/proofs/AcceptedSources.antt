-- The typed tree of each accepted source is framed.
use Rattle.std.proofs.Common.{◌≡◌, ℕ, List, [], ◌∷◌, sym, ◌∙◌, subst}
use Rattle.pli_language.specs.declared.token.Token.{Token}
use Rattle.pli_language.specs.Tokens.{Tokens}
use Rattle.pli_language.specs.Tree as T
use Rattle.pli_language.specs.Parsing.{Spells}
use Rattle.pli_language.specs.Declaring.{declaring_faults}
use Rattle.pli_typing.specs.TypedTree as Y
use Rattle.pli_typing.specs.Resolving.{typing_faults, typed_tree}
use Rattle.well_formed_trees.specs.Every.{Every}
use Rattle.well_formed_trees.specs.Surroundings.{Table}
use Rattle.well_formed_trees.specs.Blocks.{BlockLabelsOnce, procedure_numbers}
use Rattle.well_formed_trees.specs.WellFormed.{AreNumbered, IsResultIf}
use Rattle.well_formed_trees.specs.Held.{HeldProcedure, TakesParameters, table_of}
use Rattle.well_formed_trees.specs.Framed.{FramedProcedure, AcceptedFramed}
use Rattle.well_formed_trees.proofs.BlocksHeld.{table_kept}
use Rattle.well_formed_trees.proofs.EntriesSound.{depths_kept}
use Rattle.well_formed_trees.proofs.HeadsInRange.{ranges_kept}
use Rattle.well_formed_trees.proofs.HeldStatements.{blocks_kept}
use Rattle.well_formed_trees.proofs.LabelsOnce.{labels_kept}
use Rattle.well_formed_trees.proofs.MainProcedure.{main_kept}
use Rattle.well_formed_trees.proofs.ParameterVariables.{parameters_kept}
use Rattle.well_formed_trees.proofs.ProgramNumbers.{numbers_kept, lists_kept, outermost_kept}
use Rattle.well_formed_trees.proofs.ResultTypes.{results_kept}
use Rattle.well_formed_trees.proofs.Shapes.{shape_kept}
use Rattle.well_formed_trees.proofs.TableNests.{nesting_kept}

all_framed : (table : Table) (program : Y.Program) (ps : List Y.Procedure) → Every (HeldProcedure table) ps
    → Every (λ p. BlockLabelsOnce p.block) ps → Every (TakesParameters program) ps → Every (λ p. IsResultIf p.result) ps
    → Every (FramedProcedure table program) ps
all_framed table program [] h l t r = tt
all_framed table program (p ∷ ps) h l t r = (
  record { held = h.0; labels = l.0; parameters = t.0.0; apart = t.0.1; result = r.0 },
  all_framed table program ps h.1 l.1 t.1 r.1,
)

pub procedures_framed : (s : List ℕ) (tokens : List Token) (tree : T.Tree) → Tokens s tokens → Spells s tokens tree
    → declaring_faults tree ≡ [] → typing_faults tree ≡ []
    → Every (FramedProcedure (table_of tree) (typed_tree tree)) (typed_tree tree).procedures
procedures_framed s tokens tree t h declared typed =
    let shape = shape_kept s tokens tree h in
    let ranges = ranges_kept s tokens tree t h in
    let program = typed_tree tree in
    all_framed (table_of tree) program program.procedures (blocks_kept tree shape ranges typed)
    (labels_kept tree shape declared) (parameters_kept tree shape ranges declared typed)
    (results_kept tree shape ranges declared typed)

pub accepted_framed : AcceptedFramed
accepted_framed s tokens tree t h declared typed =
    let shape = shape_kept s tokens tree h in
    let ranges = ranges_kept s tokens tree t h in
    let many = table_kept tree in
    let program = typed_tree tree in
    record {
      table = table_of tree;
      main = main_kept tree shape ranges declared typed;
      numbers =
          subst (λ count. AreNumbered count (procedure_numbers program.procedures)) (sym many)
          (numbers_kept tree shape);
      entries = depths_kept tree ranges;
      nested = nesting_kept tree;
      procedures = procedures_framed s tokens tree t h declared typed;
      lists = lists_kept tree ∙ sym many;
      outermost = outermost_kept tree;
    }

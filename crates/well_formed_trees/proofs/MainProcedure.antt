-- The first procedure is the main one: it stands in no block and has no parameters; all others stand in it.
use Rattle.std.proofs.Common.{◌≡◌, ℕ, ◌≤◌, Bool, true, false, not, ◌||◌, List, [], ◌∷◌, ◌++◌, length, refl, sym, ap}
use Rattle.std.proofs.Common.{◌∙◌, subst, arith}
use Rattle.std.specs.Prelude.{nat_lt}
use Rattle.std.specs.List.{flat_map}
use Rattle.std.proofs.lemmas.Bool.Decides.{nat_tests}
use Rattle.std.proofs.lemmas.List.{append-nil}
use Rattle.pli_language.specs.declared.fault.SourceFault.{SourceFault}
use Rattle.pli_language.specs.declared.fault.SourceKind.TheVariants.{NoMain}
use Rattle.pli_language.specs.Refusals.{fault}
use Rattle.pli_language.specs.Tree as T
use Rattle.pli_language.specs.Declarations.{Block, blocks_in, blocks_of, outermost}
use Rattle.pli_language.specs.Declaring.{block_faults, main_faults, outer_procedures, has_main, static_faults}
use Rattle.pli_language.specs.Declaring.{statics_in, at_first, when}
use Rattle.pli_typing.specs.Calls.{parameter_indices}
use Rattle.pli_typing.specs.SingleStatements.{Context, in_block, labels_in}
use Rattle.pli_typing.specs.Resolving.{statements, behind_item, outermost_context, block_variables, resolved}
use Rattle.well_formed_trees.specs.Every.{Every}
use Rattle.well_formed_trees.specs.Spelled.{IsNamed, IsRanged, ItemsHave}
use Rattle.well_formed_trees.specs.Written.{AreProcedures, AllEndLast}
use Rattle.well_formed_trees.specs.Surroundings.{Table}
use Rattle.well_formed_trees.specs.WellFormed.{HasMain, IsInner}
use Rattle.well_formed_trees.specs.Held.{entries_in, table_of, MainKept}
use Rattle.well_formed_trees.proofs.Lists.{first_empty, second_empty, second_false, every_both, every_map}
use Rattle.well_formed_trees.proofs.Places.{has_end}
use Rattle.well_formed_trees.proofs.ProgramNumbers.{no_procedure}
use Rattle.well_formed_trees.proofs.HeldStatements.{HeldInside, HasItems, ItemsFine, main_held}

-- ---- declarations that break no rule have one outer procedure

none_when : (b : Bool) (f : SourceFault) → when b f ≡ [] → b ≡ false
none_when false f e = refl
none_when true f e = absurd (cc e)

none_long : (n : ℕ) → nat_lt 0 n ≡ false → n ≤ 0
none_long n e = grind (arith, nat_tests)

no_name : (names : List T.Name) → length names ≤ 0 → names ≡ []
no_name [] h = refl
no_name (n ∷ ns) h = absurd (omega (arith, h))

no_parameter : (main : Bool) (names : List T.Name) → (not main || nat_lt 0 (length names)) ≡ false → names ≡ []
no_parameter main names e =
    no_name names (none_long (length names) (second_false (not main) (nat_lt 0 (length names)) e))

first_alone : (labels : List T.Name) (main : Bool) (names : List T.Name) → IsNamed labels
    → at_first labels (λ p. when (not main || nat_lt 0 (length names)) (fault p NoMain)) ≡ [] → names ≡ []
first_alone [] main names h e = absurd h
first_alone (l ∷ ls) main names h e =
    no_parameter main names (none_when (not main || nat_lt 0 (length names)) (fault l.place NoMain) e)

named_fault : (labels : List T.Name) → IsNamed labels → at_first labels (λ p. fault p NoMain ∷ []) ≡ [] → ⊥
named_fault [] h e = h
named_fault (l ∷ ls) h e = absurd (cc e)

no_further : (is : T.Items) → AreProcedures is → ItemsHave IsRanged 0 0 false is
    → flat_map (λ h. at_first h.labels (λ p. fault p NoMain ∷ [])) (outer_procedures is) ≡ [] → is ≡ T.NoItem
no_further T.NoItem o h e = refl
no_further (T.ItemThen (T.Procedure head body) is) o h e =
    absurd (named_fault head.labels h.0.0.1 (first_empty (at_first head.labels (λ p. fault p NoMain ∷ [])) _ e))
no_further (T.ItemThen (T.Declare items place) is) o h e = absurd o
no_further (T.ItemThen (T.Statement labels s) is) o h e = absurd o
no_further (T.ItemThen (T.EndLabels labels place) is) o h e = absurd o

-- one outer procedure, without parameters
record IsMain (head : T.ProcedureHead) (is : T.Items) : Type 0 where
  none : head.parameters ≡ []
  alone : is ≡ T.NoItem

main_alone : (head : T.ProcedureHead) (body is : T.Items) → AreProcedures is
    → ItemsHave IsRanged 0 0 false (T.ItemThen (T.Procedure head body) is)
    → main_faults (head ∷ outer_procedures is) ≡ [] → IsMain head is
main_alone head body is o h e =
    let first = at_first head.labels
    (λ p. when (not (has_main head) || nat_lt 0 (length head.parameters)) (fault p NoMain)) in
    let others = flat_map (λ h. at_first h.labels (λ p. fault p NoMain ∷ [])) (outer_procedures is) in
    record {
      none = first_alone head.labels (has_main head) head.parameters h.0.0.1 (first_empty first others e);
      alone = no_further is o h.1 (second_empty first others e);
    }

-- ---- typed procedures

none_inner : (c : Context) (next : ℕ) (is : T.Items) → is ≡ T.NoItem → Every IsInner (statements c next is).procedures
unfolding statements
none_inner c next is e = subst (λ is. Every IsInner (statements c next is).procedures) (sym e) tt

main_of : (table : Table) (all : List Block) (is : T.Items) → AreProcedures is → AllEndLast is
    → HasItems table (outermost_context all) [] 1 is → ItemsFine (outermost_context all) 0 0 false 1 is
    → main_faults (outer_procedures is) ≡ [] → HasMain (statements (outermost_context all) 1 is).procedures
unfolding statements
main_of table all T.NoItem o l h k e = absurd (cc e)
main_of table all (T.ItemThen (T.Procedure head body) is) o l h k e =
    let c = outermost_context all in
    let r = statements (in_block c 1 (labels_in body)) 2 body in
    let next = behind_item c 1 (T.Procedure head body) in
    let m = main_held table c refl refl 1 head body is l.0 h k in
    let a = main_alone head body is o k.0 e in (
      m.0,
      (
        ap (parameter_indices all 1) a.none,
        every_both IsInner r.procedures (statements c next is).procedures
            (every_map (HeldInside table all) IsInner (λ p h. h.0) r.procedures m.1.1) (none_inner c next is a.alone),
      ),
    )
main_of table all (T.ItemThen (T.Declare items place) is) o l h k e = absurd o
main_of table all (T.ItemThen (T.Statement labels s) is) o l h k e = absurd o
main_of table all (T.ItemThen (T.EndLabels labels place) is) o l h k e = absurd o

pub main_kept : MainKept
unfolding resolved blocks_of
main_kept tree h ranged declared typed =
    let all = blocks_of tree in
    let table = table_of tree in
    let bs = has_end all (outermost ∷ []) (blocks_in (0 ∷ []) 1 tree.procedures) refl in
    let es = has_end table ([] ∷ []) (entries_in [] 1 tree.procedures) refl in
    let r = statements (outermost_context all) 1 tree.procedures in
    let variables = block_variables all 0 all in
    let main = main_faults (outer_procedures tree.procedures) in
    let blocks = flat_map block_faults all in
    let static = static_faults (flat_map (λ b. statics_in b.declarations) all) in
    let alone = first_empty main blocks (first_empty (main ++ blocks) static declared) in
    let m = main_of table all tree.procedures h.outer h.ends (bs, es)
    (ranged, first_empty r.faults variables.faults typed)
    alone in
    subst HasMain (sym (append-nil r.procedures) ∙ ap (λ ps. r.procedures ++ ps) (sym (no_procedure all 0 all))) m

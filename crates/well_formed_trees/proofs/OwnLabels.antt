-- The labels of a block are those that it declares, in their order; and no two are the same where no rule is broken.
use Rattle.std.proofs.Common.{◌≡◌, ℕ, Bool, true, false, ◌&&◌, List, [], ◌∷◌, ◌++◌, map, refl, sym, ap, ◌∙◌, inl, inr}
use Rattle.std.specs.Prelude.{◌⊎◌}
use Rattle.std.specs.List.{list_any, flat_map}
use Rattle.std.proofs.lemmas.List.{append-nil, append_assoc}
use Rattle.pli_language.specs.Keywords.{same_bytes}
use Rattle.pli_language.specs.Refusals.{fault}
use Rattle.pli_language.specs.declared.fault.SourceKind.TheVariants.{DeclaredTwice}
use Rattle.pli_language.specs.Tree as T
use Rattle.pli_language.specs.Declarations.{Declaration, Held, What, Variable', ProcedureName, declared_in}
use Rattle.pli_language.specs.Declarations.{declared_in_item, declared_in_stmt, labels_declared, procedure_declared}
use Rattle.pli_language.specs.Declarations.{declared_by, variable_declared, held, variables_of}
use Rattle.pli_language.specs.Declarations as D
use Rattle.pli_language.specs.Declaring.{twice_faults, are_rivals, when}
use Rattle.pli_typing.specs.TypedTree as Y
use Rattle.pli_typing.specs.SingleStatements.{Context, Turns, OneTurn, CountedTurns, do_statement, in_list, in_unit}
use Rattle.pli_typing.specs.SingleStatements.{labels_in, turns, assign_statement, call_statement, return_statement}
use Rattle.pli_typing.specs.SingleStatements.{goto_statement}
use Rattle.pli_typing.specs.Resolving.{statement, statements, behind_stmt, behind_item, unit_of, letters_of}
use Rattle.well_formed_trees.specs.Surroundings.{Label, is_among}
use Rattle.well_formed_trees.specs.Blocks.{own_labels, block_labels, IsOnce}
use Rattle.well_formed_trees.specs.Written.{EndsLast, AllEndLast}
use Rattle.well_formed_trees.proofs.Lists.{first_empty, second_empty, first_false, second_false, both_false, and_true}
use Rattle.well_formed_trees.proofs.SimpleStatements.{IsSimple, assign_simple, call_simple, return_simple}
use Rattle.well_formed_trees.proofs.SimpleStatements.{goto_simple}

-- ---- the labels among what is declared

abbrev pub label_then : What → Label → List Label → List Label
label_then D.Label letters rest = letters ∷ rest
label_then (Variable' h) letters rest = rest
label_then (ProcedureName head) letters rest = rest

abbrev pub label_letters : List Declaration → List Label
label_letters [] = []
label_letters (d ∷ ds) = label_then d.what d.name.letters (label_letters ds)

then_append : (w : What) (letters : Label) (ls ks : List Label)
    → label_then w letters (ls ++ ks) ≡ label_then w letters ls ++ ks
then_append D.Label letters ls ks = refl
then_append (Variable' h) letters ls ks = refl
then_append (ProcedureName head) letters ls ks = refl

letters_append : (ds es : List Declaration) → label_letters (ds ++ es) ≡ label_letters ds ++ label_letters es
letters_append [] es = refl
letters_append (d ∷ ds) es =
    ap (label_then d.what d.name.letters) (letters_append ds es)
    ∙ then_append d.what d.name.letters (label_letters ds) (label_letters es)

of_labels : (names : List T.Name) → label_letters (labels_declared names) ≡ letters_of names
of_labels [] = refl
of_labels (n ∷ ns) = ap (λ ls. n.letters ∷ ls) (of_labels ns)

named_procedure : (head : T.ProcedureHead) (names : List T.Name)
    → label_letters (map (λ n. record { name = n; what = ProcedureName head }) names) ≡ []
named_procedure head [] = refl
named_procedure head (n ∷ ns) = named_procedure head ns

of_variables : (hs : List Held) → label_letters (map variable_declared hs) ≡ []
of_variables [] = refl
of_variables (h ∷ hs) = of_variables hs

-- ---- they are those of the typed block

simple_labels : (s : Y.Stmt) → IsSimple s → own_labels s ≡ []
simple_labels (Y.If condition unit line) h = absurd h
simple_labels (Y.IfElse condition unit otherwise line) h = absurd h
simple_labels (Y.Do body line) h = absurd h
simple_labels (Y.DoWhile condition body line) h = absurd h
simple_labels (Y.DoOnce target start condition body line) h = absurd h
simple_labels (Y.DoCount counter start limit step condition body line) h = absurd h
simple_labels (Y.Begin block) h = absurd h
simple_labels (Y.OnUnit condition block line) h = absurd h
simple_labels _ h = refl

do_labels : (t : Turns) (body : Y.Stmts) (line : ℕ) → own_labels (do_statement t body line) ≡ block_labels body
do_labels (OneTurn r s b) body line = refl
do_labels (CountedTurns counter s limit step b) body line = refl

unit_labels : (c : Context) (on : _) (line : ℕ) (s : Y.Stmt)
    → own_labels (Y.OnUnit on (unit_of c line s) line) ≡ own_labels s
unit_labels c on line (Y.Begin (Y.BlockOf head body)) = refl
unit_labels c on line s = append-nil (own_labels s)

-- a list's labels, and what its statement declares, before the rest
listed : (labels : List T.Name) (ds es : List Declaration) (own rest : List Label) → own ≡ label_letters ds
    → rest ≡ label_letters es
    → letters_of labels ++ (own ++ rest) ≡ label_letters ((labels_declared labels ++ ds) ++ es)
listed labels ds es own rest e f =
    let a : letters_of labels ++ (own ++ rest) ≡ letters_of labels ++ (label_letters ds ++ label_letters es) =
    ap (λ o. letters_of labels ++ (o ++ rest)) e ∙ ap (λ r. letters_of labels ++ (label_letters ds ++ r)) f in
    let b = append_assoc (letters_of labels) (label_letters ds) (label_letters es) in
    let d : (letters_of labels ++ label_letters ds) ++ label_letters es ≡ label_letters (labels_declared labels ++ ds)
    ++ label_letters es =
    ap (λ ls. ls ++ label_letters es)
    (ap (λ ls. ls ++ label_letters ds) (sym (of_labels labels))
    ∙ sym (letters_append (labels_declared labels) ds)) in
    a ∙ (sym b ∙ (d ∙ sym (letters_append (labels_declared labels ++ ds) es)))

mutual
  unfolding statement statements declared_in declared_in_item declared_in_stmt

  stmt_labels : (c : Context) (next : ℕ) (s : T.Stmt) → EndsLast s
      → own_labels (statement c next s).value ≡ label_letters (declared_in_stmt s)
  stmt_labels c next (T.Null place) l = refl
  stmt_labels c next (T.Assign target source place) l =
      simple_labels (assign_statement c.scope target source place).value (assign_simple c.scope target source place)
  stmt_labels c next (T.If e unit place) l = stmt_labels c next unit l
  stmt_labels c next (T.IfElse e unit otherwise place) l =
      let a = stmt_labels c next unit l.0 in
      let b = stmt_labels c (behind_stmt c next unit) otherwise l.1 in
      ap (λ ls. ls ++ own_labels (statement c (behind_stmt c next unit) otherwise).value) a
      ∙ (ap (λ ls. label_letters (declared_in_stmt unit) ++ ls) b
      ∙ sym (letters_append (declared_in_stmt unit) (declared_in_stmt otherwise)))
  stmt_labels c next (T.Do body place) l = stmts_labels (in_list c (labels_in body)) next body l
  stmt_labels c next (T.DoWhile e body place) l = stmts_labels (in_list c (labels_in body)) next body l
  stmt_labels c next (T.DoCount counting body place) l =
      do_labels (turns c.scope counting).value (statements (in_list c (labels_in body)) next body).value place.line
      ∙ stmts_labels (in_list c (labels_in body)) next body l
  stmt_labels c next (T.Begin body place) l = refl
  stmt_labels c next (T.OnSystem on place) l = refl
  stmt_labels c next (T.OnUnit on unit place) l =
      unit_labels c on place.line (statement (in_unit c) next unit).value ∙ stmt_labels (in_unit c) next unit l.1
  stmt_labels c next (T.Call name a place) l =
      simple_labels (call_statement c.scope name a place).value (call_simple c.scope name a place)
  stmt_labels c next (T.Return value place) l =
      simple_labels (return_statement c value place).value (return_simple c value place)
  stmt_labels c next (T.Goto label place) l =
      simple_labels (goto_statement c label place).value (goto_simple c label place)
  stmt_labels c next (T.Stop place) l = refl
  stmt_labels c next (T.Signal on place) l = refl
  stmt_labels c next (T.Revert on place) l = refl
  stmt_labels c next (T.Allocate allocations place) l = refl
  stmt_labels c next (T.Free freeings place) l = refl
  stmt_labels c next (T.Get skip pairs place) l = refl
  stmt_labels c next (T.Put skip pairs place) l = refl

  pub stmts_labels : (c : Context) (next : ℕ) (is : T.Items) → AllEndLast is
      → block_labels (statements c next is).value ≡ label_letters (declared_in is)
  stmts_labels c next T.NoItem l = refl
  stmts_labels c next (T.ItemThen (T.Procedure head body) is) l =
      let a = stmts_labels c (behind_item c next (T.Procedure head body)) is l.1 in
      let b = letters_append (procedure_declared head) (declared_in is) in
      let d = ap (λ ls. ls ++ label_letters (declared_in is)) (named_procedure head head.labels) in
      a ∙ sym (b ∙ d)
  stmts_labels c next (T.ItemThen (T.Declare items place) is) l =
      let a = stmts_labels c next is l in
      let b = letters_append (declared_by items) (declared_in is) in
      let d = ap (λ ls. ls ++ label_letters (declared_in is)) (of_variables (held [] (flat_map variables_of items))) in
      a ∙ sym (b ∙ d)
  stmts_labels c next (T.ItemThen (T.Statement labels s) is) l =
      let a = stmt_labels c next s l.0 in
      let b = stmts_labels c (behind_stmt c next s) is l.1 in
      listed labels (declared_in_stmt s) (declared_in is) (own_labels (statement c next s).value)
      (block_labels (statements c (behind_stmt c next s) is).value) a b
  stmts_labels c next (T.ItemThen (T.EndLabels labels place) is) l =
      let a = letters_append (labels_declared labels) (declared_in is) in
      let b = ap (λ is. label_letters (labels_declared labels) ++ label_letters (declared_in is)) l in
      let d = append-nil (label_letters (labels_declared labels)) in
      sym (a ∙ (b ∙ (d ∙ of_labels labels)))

-- ---- none is declared twice

abbrev IsLabelIn : Label → List Declaration → Type 0
IsLabelIn l [] = ⊥
IsLabelIn l (d ∷ ds) = ((d.what ≡ D.Label) × (d.name.letters ≡ l)) ⊎ IsLabelIn l ds

-- a name is no rival's
abbrev rivals : Label → What → Declaration → Bool
rivals letters w b = same_bytes b.name.letters letters && are_rivals b.what w

not_same : (l letters : Label) (before : List Declaration) → IsLabelIn l before
    → list_any (rivals letters D.Label) before ≡ false → same_bytes l letters ≡ false
not_same l letters [] h e = absurd h
not_same l letters (d ∷ ds) (inl h) e =
    let a = first_false (rivals letters D.Label d) (list_any (rivals letters D.Label) ds) e in
    let b : (same_bytes l letters && are_rivals D.Label D.Label) ≡ false =
    ap (λ k. same_bytes k letters && are_rivals D.Label D.Label) (sym h.1)
    ∙ (ap (λ w. same_bytes d.name.letters letters && are_rivals w D.Label) (sym h.0) ∙ a) in
    and_true (same_bytes l letters) b
not_same l letters (d ∷ ds) (inr h) e =
    not_same l letters ds h (second_false (rivals letters D.Label d) (list_any (rivals letters D.Label) ds) e)

still_apart : (w : What) (l letters : Label) (before : List Declaration) (rest : List Label) → IsLabelIn l before
    → list_any (rivals letters w) before ≡ false → is_among l rest ≡ false
    → is_among l (label_then w letters rest) ≡ false
still_apart D.Label l letters before rest h e f =
    both_false (same_bytes l letters) (is_among l rest) (not_same l letters before h e) f
still_apart (Variable' x) l letters before rest h e f = f
still_apart (ProcedureName head) l letters before rest h e f = f

when_none : (b : Bool) (f : _) → when b f ≡ [] → b ≡ false
when_none false f e = refl
when_none true f e = absurd (cc e)

-- none of these rivals one before it
no_rival : (before ds : List Declaration) (d : Declaration) → twice_faults before (d ∷ ds) ≡ []
    → list_any (rivals d.name.letters d.what) before ≡ false
no_rival before ds d e =
    let test = list_any (rivals d.name.letters d.what) before in
    when_none test (fault d.name.place DeclaredTwice)
    (first_empty (when test (fault d.name.place DeclaredTwice)) (twice_faults (d ∷ before) ds) e)

further : (before ds : List Declaration) (d : Declaration) → twice_faults before (d ∷ ds) ≡ []
    → twice_faults (d ∷ before) ds ≡ []
further before ds d e =
    second_empty (when (list_any (rivals d.name.letters d.what) before) (fault d.name.place DeclaredTwice))
    (twice_faults (d ∷ before) ds) e

later_apart : (l : Label) (before ds : List Declaration) → IsLabelIn l before → twice_faults before ds ≡ []
    → is_among l (label_letters ds) ≡ false
later_apart l before [] h e = refl
later_apart l before (d ∷ ds) h e =
    still_apart d.what l d.name.letters before (label_letters ds) h (no_rival before ds d e)
    (later_apart l (d ∷ before) ds (inr h) (further before ds d e))

once_then : (w : What) (d : Declaration) (before ds : List Declaration) → d.what ≡ w
    → twice_faults (d ∷ before) ds ≡ [] → IsOnce (label_letters ds)
    → IsOnce (label_then w d.name.letters (label_letters ds))
once_then D.Label d before ds e f h = (later_apart d.name.letters (d ∷ before) ds (inl (e, refl)) f, h)
once_then (Variable' x) d before ds e f h = h
once_then (ProcedureName head) d before ds e f h = h

pub declared_once : (before ds : List Declaration) → twice_faults before ds ≡ [] → IsOnce (label_letters ds)
declared_once before [] e = tt
declared_once before (d ∷ ds) e =
    once_then d.what d before ds refl (further before ds d e) (declared_once (d ∷ before) ds (further before ds d e))

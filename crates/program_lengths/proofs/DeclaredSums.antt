-- Sums over what DECLARE statements say bound those over what blocks declare: each variable is declared in one block.
use Rattle.std.proofs.Common.{◌≡◌, ℕ, ◌+◌, ◌≤◌, List, [], ◌∷◌, ◌++◌, map, length, arith}
use Rattle.std.specs.List.{flat_map}
use Rattle.pli_language.specs.Tree as T
use Rattle.pli_language.specs.Declarations.{Variable, variables_of, holders, held, What, Variable', Label}
use Rattle.pli_language.specs.Declarations.{ProcedureName, Declaration, variable_declared, labels_declared}
use Rattle.pli_language.specs.Declarations.{declared_by, declared_in, declared_in_item, declared_in_stmt, Block}
use Rattle.pli_language.specs.Declarations.{blocks_in, blocks_in_item, blocks_in_stmt}
use Rattle.program_lengths.specs.Declares.{declared_sum, declares_sum}

-- ---- sums of what each variable is given

abbrev pub variables_sum : (Variable → ℕ) → List Variable → ℕ
variables_sum w [] = 0
variables_sum w (v ∷ vs) = w v + variables_sum w vs

abbrev pub what_sum : (Variable → ℕ) → What → ℕ
what_sum w (Variable' h) = w h.variable
what_sum w Label = 0
what_sum w (ProcedureName head) = 0

abbrev pub declarations_sum : (Variable → ℕ) → List Declaration → ℕ
declarations_sum w [] = 0
declarations_sum w (d ∷ ds) = what_sum w d.what + declarations_sum w ds

abbrev pub blocks_sum : (Variable → ℕ) → List Block → ℕ
blocks_sum w [] = 0
blocks_sum w (b ∷ bs) = declarations_sum w b.declarations + blocks_sum w bs

pub variables_split : (w : Variable → ℕ) (vs us : List Variable)
    → variables_sum w (vs ++ us) ≡ variables_sum w vs + variables_sum w us
variables_split w [] us = omega arith
variables_split w (v ∷ vs) us = let more = variables_split w vs us in omega (arith, more)

declared_split : (w : Variable → ℕ) (ds es : List Declaration)
    → declarations_sum w (ds ++ es) ≡ declarations_sum w ds + declarations_sum w es
declared_split w [] es = omega arith
declared_split w (d ∷ ds) es = let more = declared_split w ds es in omega (arith, more)

all_split : (w : Variable → ℕ) (bs cs : List Block)
    → blocks_sum w (bs ++ cs) ≡ blocks_sum w bs + blocks_sum w cs
all_split w [] cs = omega arith
all_split w (b ∷ bs) cs = let more = all_split w bs cs in omega (arith, more)

-- ---- what is declared

held_within : (w : Variable → ℕ) (chain vs : List Variable)
    → declarations_sum w (map variable_declared (held chain vs)) ≤ variables_sum w vs
unfolding held
held_within w chain [] = omega arith
held_within w chain (v ∷ vs) = let more = held_within w (holders chain v ++ v ∷ []) vs in omega (arith, more)

labels_within : (w : Variable → ℕ) (names : List T.Name) → declarations_sum w (labels_declared names) ≤ 0
labels_within w [] = omega arith
labels_within w (n ∷ ns) = let more = labels_within w ns in omega (arith, more)

procedure_within : (w : Variable → ℕ) (head : T.ProcedureHead) (names : List T.Name)
    → declarations_sum w (map (λ n. record { name = n; what = ProcedureName head }) names) ≤ 0
procedure_within w head [] = omega arith
procedure_within w head (n ∷ ns) = let more = procedure_within w head ns in omega (arith, more)

-- ---- blocks

abbrev pub Pays : (Variable → ℕ) → (List T.DeclareItem → ℕ) → Type 0
Pays w f = (items : List T.DeclareItem) → variables_sum w (flat_map variables_of items) ≤ f items

mutual
  unfolding declared_in declared_in_item declared_in_stmt blocks_in blocks_in_item blocks_in_stmt

  stmt_summed : (w : Variable → ℕ) (f : List T.DeclareItem → ℕ) → Pays w f → (around : List ℕ) (next : ℕ) (s : T.Stmt)
      → declarations_sum w (declared_in_stmt s) + blocks_sum w (blocks_in_stmt around next s) ≤ declared_sum f s
  stmt_summed w f k around next (T.If e unit place) = stmt_summed w f k around next unit
  stmt_summed w f k around next (T.IfElse e unit otherwise place) =
      let bs = blocks_in_stmt around next unit in
      let one = stmt_summed w f k around next unit in
      let other = stmt_summed w f k around (next + length bs) otherwise in
      let own = declared_split w (declared_in_stmt unit) (declared_in_stmt otherwise) in
      let all = all_split w bs (blocks_in_stmt around (next + length bs) otherwise) in
      omega (arith, one, other, own, all)
  stmt_summed w f k around next (T.Do body place) = list_summed w f k around next body
  stmt_summed w f k around next (T.DoWhile e body place) = list_summed w f k around next body
  stmt_summed w f k around next (T.DoCount counting body place) = list_summed w f k around next body
  stmt_summed w f k around next (T.Begin body place) =
      let inner = list_summed w f k (next ∷ around) (next + 1) body in omega (arith, inner)
  stmt_summed w f k around next (T.OnUnit on unit place) = stmt_summed w f k around next unit
  stmt_summed w f k around next _ = omega arith

  pub list_summed : (w : Variable → ℕ) (f : List T.DeclareItem → ℕ) → Pays w f → (around : List ℕ) (next : ℕ)
      (is : T.Items)
      → declarations_sum w (declared_in is) + blocks_sum w (blocks_in around next is) ≤ declares_sum f is
  list_summed w f k around next T.NoItem = omega arith
  list_summed w f k around next (T.ItemThen (T.Procedure head body) is) =
      let bs = blocks_in_item around next (T.Procedure head body) in
      let inner = list_summed w f k (next ∷ around) (next + 1) body in
      let rest = list_summed w f k around (next + length bs) is in
      let none = procedure_within w head head.labels in
      let own = declared_split w (declared_in_item (T.Procedure head body)) (declared_in is) in
      let all = all_split w bs (blocks_in around (next + length bs) is) in
      omega (arith, inner, rest, none, own, all)
  list_summed w f k around next (T.ItemThen (T.Declare items place) is) =
      let rest = list_summed w f k around (next + 0) is in
      let one = k items in
      let each' = held_within w [] (flat_map variables_of items) in
      let own = declared_split w (declared_by items) (declared_in is) in
      omega (arith, rest, one, each', own)
  list_summed w f k around next (T.ItemThen (T.Statement labels s) is) =
      let bs = blocks_in_stmt around next s in
      let one = stmt_summed w f k around next s in
      let rest = list_summed w f k around (next + length bs) is in
      let none = labels_within w labels in
      let own = declared_split w (labels_declared labels ++ declared_in_stmt s) (declared_in is) in
      let own' = declared_split w (labels_declared labels) (declared_in_stmt s) in
      let all = all_split w bs (blocks_in around (next + length bs) is) in
      omega (arith, one, rest, none, own, own', all)
  list_summed w f k around next (T.ItemThen (T.EndLabels labels place) is) =
      let rest = list_summed w f k around (next + 0) is in
      let none = labels_within w labels in
      let own = declared_split w (labels_declared labels) (declared_in is) in
      omega (arith, rest, none, own)

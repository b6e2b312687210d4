-- The units of a list and where they stand: no two are alike, so each stands at one place.
use Rattle.std.proofs.Common.{◌≡◌, ◌⊎◌, inl, inr, ℕ, zero, suc, ◌+◌, ◌*◌, ◌≤◌, List, [], ◌∷◌, ◌++◌}
use Rattle.std.proofs.Common.{Some, true, refl, sym, ap, ◌∙◌, subst, arith}
use Rattle.std.specs.Prelude.{◌&&◌, ◌||◌, ◌==◌, Bool, not}
use Rattle.std.specs.List.{list_any}
use Rattle.std.proofs.lemmas.Bool.{and_parts, eq-eqb, or_left, or_right}
use Rattle.std.proofs.lemmas.Option.{same_Some}
use Rattle.pli_typing.specs.TypedTree as Y
use Rattle.pli_meaning.specs.Control.{Label}
use Rattle.pli_meaning.specs.DeclaredShapes.{head_of}
use Rattle.pli_meaning.specs.Executing.{labels_in}
use Rattle.pli_meaning.specs.StorageState.{same_condition}
use Rattle.pli_coding.specs.Allocating.{act_code}
use Rattle.pli_coding.specs.Assembly.{size_of}
use Rattle.pli_coding.specs.Environments.{Environment, none_taken}
use Rattle.pli_coding.specs.Expressions.{bit_code}
use Rattle.pli_coding.specs.Statements.{marked, stmt_code}
use Rattle.activation_relation.specs.Chains.{StandsAt, UnitPlaces}
use Rattle.program_places.specs.Placed.{Placed}
use Rattle.program_runs.specs.Statements.{Block}
use Rattle.number_runs.specs.Knowledge.{AreStanding, Standing}
use Rattle.number_runs.specs.Statements.{is_line}
use Rattle.unit_runs.specs.Establishing.{OnUnit, on_of, unit_index, unit_of}
use Rattle.phase_runs.specs.Units.{ArePlaced, IsListed}
use Rattle.unit_numbers.specs.Calls.{all_units_in, units_in}
use Rattle.unit_numbers.specs.Programs.{are_apart, has_alike, is_alike}
use Rattle.unit_numbers.specs.Steps.{are_steps, is_step, is_step_test}
use Rattle.unit_numbers.specs.Units.{is_unit}
use Rattle.unit_numbers.proofs.Forces.{condition_same}
use Rattle.unit_numbers.proofs.Inside.{first_stands, group_stands, met_stands, one_stands, rest_stands, second_stands}
use Rattle.unit_numbers.proofs.Inside.{turns_stand}

-- ---- by a walk along the list: each ON with the index at which it stands

-- behind a test, where what it chooses begins
abbrev pub chosen_at : Environment → Y.Bit → (line index : ℕ) → ℕ
chosen_at e condition line index = index + size_of (act_code line) + size_of (bit_code e none_taken condition) + 3

abbrev mutual
  pub placed_in : Environment → Y.Stmt → (index : ℕ) → List (OnUnit × ℕ)
  placed_in e (Y.OnUnit condition (Y.BlockOf head body) line) index =
      (record { condition = condition; head = head; body = body; line = line }, index) ∷ []
  placed_in e (Y.If condition unit line) index = placed_in e unit (chosen_at e condition line index)
  placed_in e (Y.IfElse condition unit otherwise line) index =
      placed_in e unit (chosen_at e condition line index)
      ++ placed_in e otherwise (chosen_at e condition line index + size_of (stmt_code e none_taken unit) + 2)
  placed_in e (Y.Do body line) index = all_placed_in e body (index + size_of (act_code line))
  placed_in e (Y.DoWhile condition body line) index =
      all_placed_in e body (chosen_at e condition line (index + size_of (act_code line)))
  placed_in e _ index = []

  pub all_placed_in : Environment → Y.Stmts → (index : ℕ) → List (OnUnit × ℕ)
  all_placed_in e (Y.EndOfList own) index = []
  all_placed_in e (Y.StmtThen own first rest) index =
      placed_in e first (index + size_of (marked e.block own))
      ++ all_placed_in e rest (index + size_of (marked e.block own) + size_of (stmt_code e none_taken first))

abbrev pub heads_of : List (OnUnit × ℕ) → List OnUnit
heads_of [] = []
heads_of (e ∷ es) = e.0 ∷ heads_of es

heads_both : (xs ys : List (OnUnit × ℕ)) → heads_of (xs ++ ys) ≡ heads_of xs ++ heads_of ys
heads_both [] ys = refl
heads_both (x ∷ xs) ys = ap (λ us. x.0 ∷ us) (heads_both xs ys)

pub two_heads :
    (xs ys : List (OnUnit × ℕ)) (us vs : List OnUnit) → heads_of xs ≡ us → heads_of ys ≡ vs →
    heads_of (xs ++ ys) ≡ us ++ vs
two_heads xs ys us vs e f =
    heads_both xs ys ∙ ap (λ u. u ++ heads_of ys) e ∙ ap (λ v. us ++ v) f

-- they are those of the tree
mutual
  pub heads_in : (e : Environment) (stmt : Y.Stmt) (index : ℕ) → heads_of (placed_in e stmt index) ≡ units_in stmt
  heads_in e (Y.OnUnit condition (Y.BlockOf head body) line) index = refl
  heads_in e (Y.If condition unit line) index = heads_in e unit (chosen_at e condition line index)
  heads_in e (Y.IfElse condition unit otherwise line) index =
      let at = chosen_at e condition line index in
      let behind = at + size_of (stmt_code e none_taken unit) + 2 in
      two_heads (placed_in e unit at) (placed_in e otherwise behind) (units_in unit) (units_in otherwise)
      (heads_in e unit at) (heads_in e otherwise behind)
  heads_in e (Y.Do body line) index = all_heads_in e body (index + size_of (act_code line))
  heads_in e (Y.DoWhile condition body line) index =
      all_heads_in e body (chosen_at e condition line (index + size_of (act_code line)))
  heads_in e (Y.Null line) index = refl
  heads_in e (Y.Assign target source line) index = refl
  heads_in e (Y.CallProcedure call line) index = refl
  heads_in e (Y.Return line) index = refl
  heads_in e (Y.ReturnValue type source line) index = refl
  heads_in e (Y.Goto level label line) index = refl
  heads_in e (Y.Stop line) index = refl
  heads_in e (Y.AssignElements target source line) index = refl
  heads_in e (Y.AssignAggregate target source line) index = refl
  heads_in e (Y.AssignArea target source line) index = refl
  heads_in e (Y.EmptyArea target line) index = refl
  heads_in e (Y.DoOnce variable start condition body line) index = refl
  heads_in e (Y.DoCount counter start limit step condition body line) index = refl
  heads_in e (Y.Begin block) index = refl
  heads_in e (Y.Signal condition line) index = refl
  heads_in e (Y.Allocate items line) index = refl
  heads_in e (Y.Free items line) index = refl
  heads_in e (Y.Get skip pairs line) index = refl
  heads_in e (Y.Put skip pairs line) index = refl
  heads_in e (Y.OnSystem condition line) index = refl
  heads_in e (Y.Revert condition line) index = refl

  pub all_heads_in :
      (e : Environment) (body : Y.Stmts) (index : ℕ) → heads_of (all_placed_in e body index) ≡ all_units_in body
  all_heads_in e (Y.EndOfList own) index = refl
  all_heads_in e (Y.StmtThen own first rest) index =
      let at = index + size_of (marked e.block own) in
      let behind = at + size_of (stmt_code e none_taken first) in
      two_heads (placed_in e first at) (all_placed_in e rest behind) (units_in first) (all_units_in rest)
      (heads_in e first at) (all_heads_in e rest behind)

-- ---- one of them

pub listed_front : (e : OnUnit × ℕ) (xs ys : List (OnUnit × ℕ)) → IsListed e xs → IsListed e (xs ++ ys)
listed_front e [] ys h = absurd h
listed_front e (x ∷ xs) ys (inl h) = inl h
listed_front e (x ∷ xs) ys (inr h) = inr (listed_front e xs ys h)

pub listed_back : (e : OnUnit × ℕ) (xs ys : List (OnUnit × ℕ)) → IsListed e ys → IsListed e (xs ++ ys)
listed_back e [] ys h = h
listed_back e (x ∷ xs) ys h = inr (listed_back e xs ys h)

pub listed_either :
    (e : OnUnit × ℕ) (xs ys : List (OnUnit × ℕ)) → IsListed e (xs ++ ys) → IsListed e xs ⊎ IsListed e ys
listed_either e [] ys h = inr h
listed_either e (x ∷ xs) ys (inl h) = inl (inl h)
listed_either e (x ∷ xs) ys (inr h) = by (listed_either e xs ys h)
  where
    by : IsListed e xs ⊎ IsListed e ys → IsListed e (x ∷ xs) ⊎ IsListed e ys
    by (inl here) = inl (inr here)
    by (inr there) = inr there

-- the list has a unit for its condition
pub unit_listed :
    (e : OnUnit × ℕ) (es : List (OnUnit × ℕ)) → IsListed e es →
    list_any (λ x. same_condition x.condition e.0.condition) (heads_of es) ≡ true
unit_listed e [] h = absurd h
unit_listed e (x ∷ xs) (inl h) =
    or_left (same_condition x.0.condition e.0.condition)
    (list_any (λ y. same_condition y.condition e.0.condition) (heads_of xs))
    (ap (λ (p : OnUnit × ℕ). same_condition p.0.condition e.0.condition) h ∙ condition_same e.0.condition)
unit_listed e (x ∷ xs) (inr h) =
    or_right (same_condition x.0.condition e.0.condition)
    (list_any (λ y. same_condition y.condition e.0.condition) (heads_of xs)) (unit_listed e xs h)

-- ---- each at one place

abbrev pub places_of : List (OnUnit × ℕ) → UnitPlaces
places_of [] = []
places_of (e ∷ es) = record { unit = unit_of e.0; at = 4 * unit_index e.0 e.1 } ∷ places_of es

pub listed_at :
    (e : OnUnit × ℕ) (es : List (OnUnit × ℕ)) → IsListed e es →
    StandsAt (places_of es) (unit_of e.0) (4 * unit_index e.0 e.1)
listed_at e [] h = absurd h
listed_at e (x ∷ xs) (inl h) =
    (zero, ap (λ (p : OnUnit × ℕ). Some (record { unit = unit_of p.0; at = 4 * unit_index p.0 p.1 })) h)
listed_at e (x ∷ xs) (inr h) = let q = listed_at e xs h in (suc q.0, q.1)

pub placed_by :
    (units : UnitPlaces) (es : List (OnUnit × ℕ)) →
    ((e : OnUnit × ℕ) → IsListed e es → StandsAt units (unit_of e.0) (4 * unit_index e.0 e.1)) → ArePlaced units es
placed_by units [] each = tt
placed_by units (e ∷ es) each = (each e (inl refl), placed_by units es (λ x h. each x (inr h)))

found_alike :
    (es : List (OnUnit × ℕ)) (unit : Y.Block) (at : ℕ) → StandsAt (places_of es) unit at →
    has_alike (head_of unit) (heads_of es) ≡ true
found_alike [] unit at (i, h) = absurd (cc h)
found_alike (x ∷ xs) unit at (zero, h) =
    let same = ap (λ p. head_of p.unit) (same_Some _ _ h) in
    subst (λ head. is_alike head x.0 || has_alike head (heads_of xs) ≡ true) same
    (or_left (is_alike x.0.head x.0) (has_alike x.0.head (heads_of xs))
    (ap (λ q. q && (x.0.head.line == x.0.head.line)) (eq-eqb x.0.head.number x.0.head.number refl)
    ∙ eq-eqb x.0.head.line x.0.head.line refl))
found_alike (x ∷ xs) unit at (suc i, h) =
    or_right (is_alike (head_of unit) x.0) (has_alike (head_of unit) (heads_of xs)) (found_alike xs unit at (i, h))

pub one_place :
    (es : List (OnUnit × ℕ)) (unit : Y.Block) (one other : ℕ) → are_apart (heads_of es) ≡ true →
    StandsAt (places_of es) unit one → StandsAt (places_of es) unit other → one ≡ other
one_place [] unit one other h (i, a) b = absurd (cc a)
one_place (x ∷ xs) unit one other h a b = by a b (one_place xs unit one other parts.1)
  where
    parts : (not (has_alike x.0.head (heads_of xs)) ≡ true) × (are_apart (heads_of xs) ≡ true)
    parts = and_parts (not (has_alike x.0.head (heads_of xs))) (are_apart (heads_of xs)) h

    apart : (at : ℕ) → unit_of x.0 ≡ unit → StandsAt (places_of xs) unit at → ⊥
    apart at same there =
        let found = subst (λ u. has_alike (head_of u) (heads_of xs) ≡ true) (sym same) (found_alike xs unit at there) in
        absurd (cc (sym (ap not found) ∙ parts.0))

    by :
        StandsAt (places_of (x ∷ xs)) unit one → StandsAt (places_of (x ∷ xs)) unit other →
        (StandsAt (places_of xs) unit one → StandsAt (places_of xs) unit other → one ≡ other) → one ≡ other
    by (zero, a) (zero, b) further = sym (ap (λ p. p.at) (same_Some _ _ a)) ∙ ap (λ p. p.at) (same_Some _ _ b)
    by (zero, a) (suc j, b) further = absurd (apart other (ap (λ p. p.unit) (same_Some _ _ a)) (j, b))
    by (suc i, a) (zero, b) further = absurd (apart one (ap (λ p. p.unit) (same_Some _ _ b)) (i, a))
    by (suc i, a) (suc j, b) further = further (i, a) (j, b)

-- ---- an ON of the list

-- it is of the class, and its code stands with its marks, in the list, which begins at an index
pub record IsPlaced (program : Y.Program) (ns : List ℕ) (main : Y.BlockHead) (all : Y.Stmts) (k : Block)
    (start : ℕ) (e : OnUnit × ℕ) : Type 0
  where
    pub is : is_unit program ns main all e.0 ≡ true
    pub placed :
        Placed k.call.surroundings.links k.call.code e.1 (stmt_code k.environment none_taken (on_of e.0))
    pub behind : start ≤ e.1

-- from further in
placed_from :
    {program : Y.Program} {ns : List ℕ} {main : Y.BlockHead} {all : Y.Stmts} {k : Block} {next : ℕ} {e : OnUnit × ℕ}
    (start : ℕ) → start ≤ next → IsPlaced program ns main all k next e → IsPlaced program ns main all k start e
placed_from start less h =
    let b = h.behind in record { is = h.is; placed = h.placed; behind = omega (arith, less, b) }

two_placed :
    {program : Y.Program} {ns : List ℕ} {main : Y.BlockHead} {all : Y.Stmts} {k : Block} (start : ℕ)
    (xs ys : List (OnUnit × ℕ)) (e : OnUnit × ℕ) → (IsListed e xs → IsPlaced program ns main all k start e) →
    (IsListed e ys → IsPlaced program ns main all k start e) → IsListed e (xs ++ ys) →
    IsPlaced program ns main all k start e
two_placed {program} {ns} {main} {all} {k} start xs ys e one other h = by (listed_either e xs ys h)
  where
    by : IsListed e xs ⊎ IsListed e ys → IsPlaced program ns main all k start e
    by (inl q) = one q
    by (inr q) = other q

mutual
  pub on_placed :
      (program : Y.Program) (ns : List ℕ) (main : Y.BlockHead) (all : Y.Stmts) (k : Block) (valued : Bool)
      (labels : List Label)
      (stmt : Y.Stmt) (index : ℕ) → is_step program ns main all valued labels stmt ≡ true → Standing k stmt index →
      (e : OnUnit × ℕ) → IsListed e (placed_in k.environment stmt index) → IsPlaced program ns main all k index e
  on_placed program ns main all k valued labels (Y.OnUnit condition (Y.BlockOf head body) line) index is at e (inl h) =
      subst (IsPlaced program ns main all k index) h (record { is = is; placed = at; behind = omega arith })
  on_placed program ns main all k valued labels (Y.OnUnit condition (Y.BlockOf head body) line) index is at e (inr h) =
      absurd h
  on_placed program ns main all k valued labels (Y.If condition unit line) index is at e h =
      let inner = is_step program ns main all valued labels unit in
      let a = and_parts (is_line line) (is_step_test program ns main all condition && inner) is in
      let b = and_parts (is_step_test program ns main all condition) inner a.1 in
      placed_from index (omega arith)
      (on_placed program ns main all k valued labels unit (chosen_at k.environment condition line index) b.1
      (met_stands k condition unit line index at) e h)
  on_placed program ns main all k valued labels (Y.IfElse condition unit otherwise line) index is at e h =
      let first = is_step program ns main all valued labels unit in
      let second = is_step program ns main all valued labels otherwise in
      let a = and_parts (is_line line) (is_step_test program ns main all condition && (first && second)) is in
      let b = and_parts (is_step_test program ns main all condition) (first && second) a.1 in
      let c = and_parts first second b.1 in
      let chosen = chosen_at k.environment condition line index in
      let behind = chosen + size_of (stmt_code k.environment none_taken unit) + 2 in
      placed_from index (omega arith)
      (two_placed chosen (placed_in k.environment unit chosen) (placed_in k.environment otherwise behind) e
      (λ q. on_placed program ns main all k valued labels unit chosen c.0
      (first_stands k condition unit otherwise line index at) e q)
      (λ q. placed_from chosen (omega arith)
      (on_placed program ns main all k valued labels otherwise behind c.1
      (second_stands k condition unit otherwise line index at) e q)) h)
  on_placed program ns main all k valued labels (Y.Do body line) index is at e h =
      let inner = are_steps program ns main all valued (labels_in body ++ labels) body in
      let a = and_parts (is_line line) inner is in
      placed_from index (omega arith)
      (all_on_placed program ns main all k valued (labels_in body ++ labels) body (index + size_of (act_code line)) a.1
      (group_stands k body line index at) e h)
  on_placed program ns main all k valued labels (Y.DoWhile condition body line) index is at e h =
      let inner = are_steps program ns main all valued (labels_in body ++ labels) body in
      let a = and_parts (is_line line) (is_step_test program ns main all condition && inner) is in
      let b = and_parts (is_step_test program ns main all condition) inner a.1 in
      placed_from index (omega arith)
      (all_on_placed program ns main all k valued (labels_in body ++ labels) body
      (chosen_at k.environment condition line (index + size_of (act_code line))) b.1
      (turns_stand k condition body line index at) e h)
  on_placed program ns main all k valued labels (Y.Null line) index is at e h = absurd h
  on_placed program ns main all k valued labels (Y.Assign target source line) index is at e h = absurd h
  on_placed program ns main all k valued labels (Y.CallProcedure call line) index is at e h = absurd h
  on_placed program ns main all k valued labels (Y.Return line) index is at e h = absurd h
  on_placed program ns main all k valued labels (Y.ReturnValue type source line) index is at e h = absurd h
  on_placed program ns main all k valued labels (Y.Goto level label line) index is at e h = absurd h
  on_placed program ns main all k valued labels (Y.Stop line) index is at e h = absurd h
  on_placed program ns main all k valued labels (Y.AssignElements target source line) index is at e h = absurd h
  on_placed program ns main all k valued labels (Y.AssignAggregate target source line) index is at e h = absurd h
  on_placed program ns main all k valued labels (Y.AssignArea target source line) index is at e h = absurd h
  on_placed program ns main all k valued labels (Y.EmptyArea target line) index is at e h = absurd h
  on_placed program ns main all k valued labels (Y.DoOnce variable start condition body line) index is at e h = absurd h
  on_placed program ns main all k valued labels (Y.DoCount counter start limit step condition body line) index is at e
      h =
      absurd h
  on_placed program ns main all k valued labels (Y.Begin block) index is at e h = absurd h
  on_placed program ns main all k valued labels (Y.Signal condition line) index is at e h = absurd h
  on_placed program ns main all k valued labels (Y.Allocate items line) index is at e h = absurd h
  on_placed program ns main all k valued labels (Y.Free items line) index is at e h = absurd h
  on_placed program ns main all k valued labels (Y.Get skip pairs line) index is at e h = absurd h
  on_placed program ns main all k valued labels (Y.Put skip pairs line) index is at e h = absurd h
  on_placed program ns main all k valued labels (Y.OnSystem condition line) index is at e h = absurd h
  on_placed program ns main all k valued labels (Y.Revert condition line) index is at e h = absurd h

  pub all_on_placed :
      (program : Y.Program) (ns : List ℕ) (main : Y.BlockHead) (all : Y.Stmts) (k : Block) (valued : Bool)
      (labels : List Label)
      (body : Y.Stmts) (index : ℕ) → are_steps program ns main all valued labels body ≡ true →
      AreStanding k body index →
      (e : OnUnit × ℕ) → IsListed e (all_placed_in k.environment body index) → IsPlaced program ns main all k index e
  all_on_placed program ns main all k valued labels (Y.EndOfList own) index is at e h = absurd h
  all_on_placed program ns main all k valued labels (Y.StmtThen own first rest) index is at e h =
      let a = and_parts (is_step program ns main all valued labels first)
      (are_steps program ns main all valued labels rest) is in
      let here = index + size_of (marked k.environment.block own) in
      let behind = here + size_of (stmt_code k.environment none_taken first) in
      placed_from index (omega arith)
      (two_placed here (placed_in k.environment first here) (all_placed_in k.environment rest behind) e
      (λ q. on_placed program ns main all k valued labels first here a.0 (one_stands k own first rest index at) e q)
      (λ q. placed_from here (omega arith)
      (all_on_placed program ns main all k valued labels rest behind a.1 (rest_stands k own first rest index at) e q))
      h)

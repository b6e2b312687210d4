-- The entries of the table of blocks nest: each stands behind that of the block that holds it, and those between the
-- two stand in that block, too.
use Rattle.std.proofs.Common.{◌≡◌, ℕ, suc, ◌+◌, ◌<◌, ◌≤◌, List, [], ◌∷◌, ◌++◌, length, Some, refl, sym, ap, ◌∙◌}
use Rattle.std.proofs.Common.{subst, arith, ⊎_elim}
use Rattle.std.specs.Prelude.{slice_get, ⊤}
use Rattle.std.proofs.lemmas.Bool.{cases_lt}
use Rattle.std.proofs.lemmas.List.{length-append}
use Rattle.std.proofs.lemmas.Option.{slice_get_within}
use Rattle.pli_language.specs.Tree as T
use Rattle.pli_typing.specs.SingleStatements as S
use Rattle.pli_typing.specs.Resolving.{letters_of}
use Rattle.well_formed_trees.specs.Every.{Every}
use Rattle.well_formed_trees.specs.Surroundings.{Label, Around, Table, with_inner, without_inner}
use Rattle.well_formed_trees.specs.WellFormed.{IsBehind}
use Rattle.well_formed_trees.specs.Held.{entry, entries_in, entries_in_item, entries_in_stmt, table_of, NestingKept}
use Rattle.well_formed_trees.proofs.Lists.{every_both}
use Rattle.well_formed_trees.proofs.Places.{same_some, HasAt, has_first, has_second, has_end}

-- ---- levels

-- an entry's own block is at this level or further in
abbrev IsWithin : ℕ → List Around → Type 0
IsWithin low [] = ⊥
IsWithin low (a ∷ more) = low ≤ a.level

pub inner_length : (ls : List Label) (w : List Around) → length (with_inner ls w) ≡ length w
inner_length ls [] = refl
inner_length ls (a ∷ more) = refl

pub outer_length : (w : List Around) → length (without_inner w) ≡ length w
outer_length [] = refl
outer_length (a ∷ more) = refl

lower : (low high : ℕ) → low ≤ high → (es : Table) → Every (IsWithin high) es → Every (IsWithin low) es
lower low high h [] l = tt
lower low high h ([] ∷ es) l = absurd l.0
lower low high h ((a ∷ more) ∷ es) l =
    let e = l.0 in
    (omega (arith, h, e), lower low high h es l.1)

same_low : (es : Table) {low high : ℕ} → low ≡ high → Every (IsWithin low) es → Every (IsWithin high) es
same_low es e h = subst (λ low. Every (IsWithin low) es) e h

mutual
  unfolding entries_in entries_in_item entries_in_stmt

  stmt_within : (w : List Around) (n : ℕ) (s : T.Stmt) → Every (IsWithin (length w)) (entries_in_stmt w n s)
  stmt_within w n (T.If e unit p) = stmt_within w n unit
  stmt_within w n (T.IfElse e unit otherwise p) =
      let es = entries_in_stmt w n unit in
      every_both (IsWithin (length w)) es (entries_in_stmt w (n + length es) otherwise) (stmt_within w n unit)
      (stmt_within w (n + length es) otherwise)
  stmt_within w n (T.Do body p) =
      let ls = letters_of (S.labels_in body) in
      same_low (entries_in (with_inner ls w) n body) (inner_length ls w) (list_within (with_inner ls w) n body)
  stmt_within w n (T.DoWhile e body p) =
      let ls = letters_of (S.labels_in body) in
      same_low (entries_in (with_inner ls w) n body) (inner_length ls w) (list_within (with_inner ls w) n body)
  stmt_within w n (T.DoCount c body p) =
      let ls = letters_of (S.labels_in body) in
      same_low (entries_in (with_inner ls w) n body) (inner_length ls w) (list_within (with_inner ls w) n body)
  stmt_within w n (T.OnUnit c unit p) =
      same_low (entries_in_stmt (without_inner w) n unit) (outer_length w) (stmt_within (without_inner w) n unit)
  stmt_within w n (T.Begin body p) =
      let v = entry n (S.labels_in body) w in (
        omega arith,
        lower (length w) (suc (length w)) (omega arith) (entries_in v (n + 1) body)
            (list_within v (n + 1) body),
      )
  stmt_within w n _ = tt

  list_within : (w : List Around) (n : ℕ) (is : T.Items) → Every (IsWithin (length w)) (entries_in w n is)
  list_within w n T.NoItem = tt
  list_within w n (T.ItemThen i is) =
      let es = entries_in_item w n i in
      every_both (IsWithin (length w)) es (entries_in w (n + length es) is) (item_within w n i)
      (list_within w (n + length es) is)

  item_within : (w : List Around) (n : ℕ) (i : T.Item) → Every (IsWithin (length w)) (entries_in_item w n i)
  item_within w n (T.Procedure head body) =
      let u = without_inner w in
      let v = entry n (S.labels_in body) u in
      let e = outer_length w in (
        omega (arith, e),
        lower (length w) (suc (length u)) (omega (arith, e)) (entries_in v (n + 1) body)
            (list_within v (n + 1) body),
      )
  item_within w n (T.Declare items place) = tt
  item_within w n (T.Statement labels s) = stmt_within w n s
  item_within w n (T.EndLabels labels place) = tt

-- ---- places in the table

head_same : {X : Type 0} (x y : X) (xs ys : List X) → x ∷ xs ≡ y ∷ ys → x ≡ y
head_same x y xs ys e = cc

tail_same : {X : Type 0} (x y : X) (xs ys : List X) → x ∷ xs ≡ y ∷ ys → xs ≡ ys
tail_same x y xs ys e = cc

-- what stands in a part of a list has what all of the part has
at_place : {X : Type 0} (P : X → Type 0) (all : List X) (n : ℕ) (xs : List X) → HasAt all n xs → Every P xs
    → (m : ℕ) → n ≤ m → m < n + length xs → (x : X) → slice_get all m ≡ Some x → P x
at_place P all n [] h p m low high x e = absurd (omega (arith, low, high))
at_place P all n (y ∷ ys) h p m low high x e =
    ⊎_elim
    (λ later. at_place P all (n + 1) ys h.1 p.1 m (omega (arith, later)) (omega (arith, high)) x e)
    (λ here.
    let k : n ≡ m = omega (arith, here, low) in
    let f : slice_get all m ≡ Some y = ap (slice_get all) (sym k) ∙ h.0 in
    subst P (same_some y x (sym f ∙ e)) p.0)
    (cases_lt n m)

-- the blocks around a place, where the next block has a number: all that begin behind the innermost one stand in it
abbrev Encloses : Table → List Around → ℕ → Type 0
Encloses all [] n = ⊤
Encloses all (a ∷ more) n =
    ((a.number < n) × (a.level ≡ length more))
    × ((m : ℕ) (b : Around) (r : List Around) → a.number < m → m < n → slice_get all m ≡ Some (b ∷ r)
    → a.level < b.level)

encloses_in_list : (all : Table) (ls : List Label) (w : List Around) (n : ℕ) → Encloses all w n
    → Encloses all (with_inner ls w) n
encloses_in_list all ls [] n h = tt
encloses_in_list all ls (a ∷ more) n h = h

encloses_in_unit : (all : Table) (w : List Around) (n : ℕ) → Encloses all w n → Encloses all (without_inner w) n
encloses_in_unit all [] n h = tt
encloses_in_unit all (a ∷ more) n h = h

-- behind further blocks inside
encloses_behind : (all : Table) (w : List Around) (n : ℕ) (es : Table) → Encloses all w n → HasAt all n es
    → Every (IsWithin (length w)) es → Encloses all w (n + length es)
encloses_behind all [] n es h at l = tt
encloses_behind all (a ∷ more) n es h at l =
    let first = h.0.0 in
    let level = h.0.1 in (
      (omega (arith, first), h.0.1),
      λ m b r low high e.
          ⊎_elim (λ before. h.1 m b r low before e)
          (λ later.
          let k = at_place (IsWithin (suc (length more))) all n es at l m later high (b ∷ r) e in
          omega (arith, k, level))
          (cases_lt m n),
    )

-- inside a block of its own, of which none has begun
encloses_own : (all : Table) (n : ℕ) (labels : List T.Name) (w : List Around) → Encloses all (entry n labels w) (n + 1)
encloses_own all n labels w =
    ((omega arith, refl), λ m b r low high e. absurd (omega (arith, low, high)))

-- ---- the law

abbrev IsNestedAt : Table → ℕ → Type 0
IsNestedAt all k = (own : Around) (outer : List Around) → slice_get all k ≡ Some (own ∷ outer) → IsBehind all k outer

abbrev NestedUpTo : Table → (n many : ℕ) → Type 0
NestedUpTo all n many = (k : ℕ) → n ≤ k → k < n + many → IsNestedAt all k

none_nested : (all : Table) (n : ℕ) → NestedUpTo all n 0
none_nested all n k low high = absurd (omega (arith, low, high))

both_nested : (all : Table) (n : ℕ) (es fs : Table) → NestedUpTo all n (length es)
    → NestedUpTo all (n + length es) (length fs) → NestedUpTo all n (length (es ++ fs))
both_nested all n es fs f g k low high =
    let e = length-append es fs in
    ⊎_elim (λ before. f k low before) (λ later. g k later (omega (arith, high, e))) (cases_lt k (n + length es))

behind_around : (all : Table) (w : List Around) (n : ℕ) (own : Around) → Encloses all w n → own.level ≡ length w
    → slice_get all n ≡ Some (own ∷ w) → IsBehind all n w
behind_around all [] n own h l e = tt
behind_around all (a ∷ more) n own h l e =
    let level = h.0.1 in (
      h.0.0,
      λ m b r low high f.
          ⊎_elim (λ before. h.1 m b r low before f)
          (λ here.
          let k : m ≡ n = omega (arith, here, high) in
          let g : own ∷ (a ∷ more) ≡ b ∷ r =
          same_some (own ∷ (a ∷ more)) (b ∷ r) (sym e ∙ (ap (slice_get all) (sym k) ∙ f)) in
          let same : own.level ≡ b.level = ap (λ a. a.level) (head_same own b (a ∷ more) r g) in
          omega (arith, same, l, level))
          (cases_lt m n),
    )

-- a block's own entry, and those inside it
own_nested : (all : Table) (w : List Around) (n : ℕ) (own : Around) (es : Table) → Encloses all w n
    → own.level ≡ length w → slice_get all n ≡ Some (own ∷ w) → NestedUpTo all (n + 1) (length es)
    → NestedUpTo all n (suc (length es))
own_nested all w n own es h l e f k low high =
    ⊎_elim (λ later. f k (omega (arith, later)) (omega (arith, high)))
    (λ here.
    let same : n ≡ k = omega (arith, here, low) in
    subst (IsNestedAt all) same (λ b r g.
    let v : own ∷ w ≡ b ∷ r = same_some (own ∷ w) (b ∷ r) (sym e ∙ g) in
    subst (IsBehind all n) (tail_same own b w r v) (behind_around all w n own h l e)))
    (cases_lt n k)

mutual
  unfolding entries_in entries_in_item entries_in_stmt

  stmt_nested : (all : Table) (w : List Around) (n : ℕ) (s : T.Stmt) → Encloses all w n
      → HasAt all n (entries_in_stmt w n s) → NestedUpTo all n (length (entries_in_stmt w n s))
  stmt_nested all w n (T.If e unit p) a h = stmt_nested all w n unit a h
  stmt_nested all w n (T.IfElse e unit otherwise p) a h =
      let es = entries_in_stmt w n unit in
      let fs = entries_in_stmt w (n + length es) otherwise in
      let first = has_first all n es fs h in
      both_nested all n es fs (stmt_nested all w n unit a first)
      (stmt_nested all w (n + length es) otherwise (encloses_behind all w n es a first (stmt_within w n unit))
      (has_second all n es fs h))
  stmt_nested all w n (T.Do body p) a h =
      let ls = letters_of (S.labels_in body) in
      list_nested all (with_inner ls w) n body (encloses_in_list all ls w n a) h
  stmt_nested all w n (T.DoWhile e body p) a h =
      let ls = letters_of (S.labels_in body) in
      list_nested all (with_inner ls w) n body (encloses_in_list all ls w n a) h
  stmt_nested all w n (T.DoCount c body p) a h =
      let ls = letters_of (S.labels_in body) in
      list_nested all (with_inner ls w) n body (encloses_in_list all ls w n a) h
  stmt_nested all w n (T.OnUnit c unit p) a h =
      stmt_nested all (without_inner w) n unit (encloses_in_unit all w n a) h
  stmt_nested all w n (T.Begin body p) a h =
      let v = entry n (S.labels_in body) w in
      own_nested all w n _ (entries_in v (n + 1) body) a refl h.0
      (list_nested all v (n + 1) body (encloses_own all n (S.labels_in body) w) h.1)
  stmt_nested all w n _ a h = none_nested all n

  list_nested : (all : Table) (w : List Around) (n : ℕ) (is : T.Items) → Encloses all w n
      → HasAt all n (entries_in w n is) → NestedUpTo all n (length (entries_in w n is))
  list_nested all w n T.NoItem a h = none_nested all n
  list_nested all w n (T.ItemThen i is) a h =
      let es = entries_in_item w n i in
      let fs = entries_in w (n + length es) is in
      let first = has_first all n es fs h in
      both_nested all n es fs (item_nested all w n i a first)
      (list_nested all w (n + length es) is (encloses_behind all w n es a first (item_within w n i))
      (has_second all n es fs h))

  item_nested : (all : Table) (w : List Around) (n : ℕ) (i : T.Item) → Encloses all w n
      → HasAt all n (entries_in_item w n i) → NestedUpTo all n (length (entries_in_item w n i))
  item_nested all w n (T.Procedure head body) a h =
      let u = without_inner w in
      let v = entry n (S.labels_in body) u in
      own_nested all u n _ (entries_in v (n + 1) body) (encloses_in_unit all w n a) refl h.0
      (list_nested all v (n + 1) body (encloses_own all n (S.labels_in body) u) h.1)
  item_nested all w n (T.Declare items place) a h = none_nested all n
  item_nested all w n (T.Statement labels s) a h = stmt_nested all w n s a h
  item_nested all w n (T.EndLabels labels place) a h = none_nested all n

pub nesting_kept : NestingKept
nesting_kept tree number own outer e =
    let all = table_of tree in
    let es = entries_in [] 1 tree.procedures in
    let inside = slice_get_within all number (own ∷ outer) e in
    ⊎_elim
    (λ some.
    list_nested all [] 1 tree.procedures tt (has_end all ([] ∷ []) es refl) number some (omega (arith, inside)) own
    outer e)
    (λ none.
    let zero_is : number ≡ 0 = omega (arith, none) in
    let f : Some [] ≡ Some (own ∷ outer) = ap (slice_get all) (sym zero_is) ∙ e in
    absurd (cc f))
    (cases_lt 0 number)

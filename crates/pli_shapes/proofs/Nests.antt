-- The nest of members is that of the parts that stand for them.
use Rattle.std.proofs.Common.{◌≡◌, ℕ, zero, suc, ◌-◌, ◌≤◌, ◌<◌, ◌⊎◌, inl, inr, List, [], ◌∷◌, ◌++◌, length, if◌then◌else◌, refl, sym, ap, ◌∙◌, arith}
use Rattle.std.proofs.lemmas.Bool.{cases_lt, le-ltb, lt-ltb}
use Rattle.pli_typing.specs.TypedTree.{Member}
use Rattle.pli_meaning.specs.StreamOrder.{Nest, NoNest, NestOf, nest_of, deeper, behind_deeper}
use Rattle.pli_shapes.specs.declared.part.Part.{Part}
use Rattle.pli_shapes.specs.Members.{members_from, members_of}
use Rattle.pli_shapes.specs.Nests.{nest_from, nest_in}

-- ---- deeper than two depths

deeper_yes : (d e n : ℕ) (inside behind : Nest) → d < e → deeper d (NestOf e n inside behind) ≡ NestOf e n inside (deeper d behind)
deeper_yes d e n inside behind h = ap (λ b. if b then NestOf e n inside (deeper d behind) else NoNest) (lt-ltb d e h)

deeper_no : (d e n : ℕ) (inside behind : Nest) → e ≤ d → deeper d (NestOf e n inside behind) ≡ NoNest
deeper_no d e n inside behind h = ap (λ b. if b then NestOf e n inside (deeper d behind) else NoNest) (le-ltb d e h)

behind_yes : (d e n : ℕ) (inside behind : Nest) → d < e → behind_deeper d (NestOf e n inside behind) ≡ behind_deeper d behind
behind_yes d e n inside behind h = ap (λ b. if b then behind_deeper d behind else NestOf e n inside behind) (lt-ltb d e h)

behind_no : (d e n : ℕ) (inside behind : Nest) → e ≤ d → behind_deeper d (NestOf e n inside behind) ≡ NestOf e n inside behind
behind_no d e n inside behind h = ap (λ b. if b then behind_deeper d behind else NestOf e n inside behind) (le-ltb d e h)

deeper_twice : (d e : ℕ) (nest : Nest) → d < e → deeper e (deeper d nest) ≡ deeper e nest
deeper_twice d e NoNest h = refl
deeper_twice d e (NestOf f n inside behind) h = go (cases_lt e f) (deeper_twice d e behind h)
  where
    low : (f ≤ e) → deeper e (deeper d (NestOf f n inside behind)) ≡ NoNest
    low more = elim (cases_lt d f) [
      | inl less ↦ ap (deeper e) (deeper_yes d f n inside behind less) ∙ deeper_no e f n inside (deeper d behind) more
      | inr none ↦ ap (deeper e) (deeper_no d f n inside behind none)
    ]

    go : (e < f) ⊎ (f ≤ e) → deeper e (deeper d behind) ≡ deeper e behind → deeper e (deeper d (NestOf f n inside behind)) ≡ deeper e (NestOf f n inside behind)
    go (inl less) same =
        ap (deeper e) (deeper_yes d f n inside behind (omega (arith, h, less)))
        ∙ (deeper_yes e f n inside (deeper d behind) less
        ∙ (ap (NestOf f n inside) same ∙ sym (deeper_yes e f n inside behind less)))
    go (inr more) same = low more ∙ sym (deeper_no e f n inside behind more)

behind_twice : (d e : ℕ) (nest : Nest) → d < e → behind_deeper d (behind_deeper e nest) ≡ behind_deeper d nest
behind_twice d e NoNest h = refl
behind_twice d e (NestOf f n inside behind) h = go (cases_lt e f) (behind_twice d e behind h)
  where
    go : (e < f) ⊎ (f ≤ e) → behind_deeper d (behind_deeper e behind) ≡ behind_deeper d behind → behind_deeper d (behind_deeper e (NestOf f n inside behind)) ≡ behind_deeper d (NestOf f n inside behind)
    go (inl less) same =
        ap (behind_deeper d) (behind_yes e f n inside behind less) ∙ (same ∙ sym (behind_yes d f n inside behind (omega (arith, h, less))))
    go (inr more) same = ap (behind_deeper d) (behind_no e f n inside behind more)

apart : (d e : ℕ) (nest : Nest) → d < e → deeper d (behind_deeper e nest) ≡ behind_deeper e (deeper d nest)
apart d e NoNest h = refl
apart d e (NestOf f n inside behind) h = go (cases_lt e f) (apart d e behind h)
  where
    low : (f ≤ e) → deeper d (NestOf f n inside behind) ≡ behind_deeper e (deeper d (NestOf f n inside behind))
    low more = elim (cases_lt d f) [
      | inl less ↦
          deeper_yes d f n inside behind less
          ∙ (sym (behind_no e f n inside (deeper d behind) more) ∙ ap (behind_deeper e) (sym (deeper_yes d f n inside behind less)))
      | inr none ↦ deeper_no d f n inside behind none ∙ ap (behind_deeper e) (sym (deeper_no d f n inside behind none))
    ]

    go : (e < f) ⊎ (f ≤ e) → deeper d (behind_deeper e behind) ≡ behind_deeper e (deeper d behind) → deeper d (behind_deeper e (NestOf f n inside behind)) ≡ behind_deeper e (deeper d (NestOf f n inside behind))
    go (inl less) same =
        let far : d < f = omega (arith, h, less) in
        ap (deeper d) (behind_yes e f n inside behind less)
        ∙ (same
        ∙ (sym (behind_yes e f n inside (deeper d behind) less)
        ∙ ap (behind_deeper e) (sym (deeper_yes d f n inside behind far))))
    go (inr more) same = ap (deeper d) (behind_no e f n inside behind more) ∙ low more

-- ---- members deeper than a depth, and others behind them

abbrev AreDeeper : (depth : ℕ) → List Member → Type 0
AreDeeper depth [] = Unit {0}
AreDeeper depth (m ∷ ms) = (depth < m.depth) × AreDeeper depth ms

abbrev IsBack : (depth : ℕ) → List Member → Type 0
IsBack depth [] = Unit {0}
IsBack depth (m ∷ ms) = m.depth ≤ depth

front : (d : ℕ) (as' bs : List Member) → AreDeeper d as' → IsBack d bs → deeper d (nest_of (as' ++ bs)) ≡ nest_of as'
front d [] [] a b = refl
front d [] (m ∷ bs) a b = deeper_no d m.depth m.dimensions (deeper m.depth (nest_of bs)) (behind_deeper m.depth (nest_of bs)) b
front d (m ∷ as') bs a b =
    let nest = nest_of (as' ++ bs) in
    let same = front d as' bs a.1 b in
    deeper_yes d m.depth m.dimensions (deeper m.depth nest) (behind_deeper m.depth nest) a.0
    ∙ (ap (NestOf m.depth m.dimensions (deeper m.depth nest)) (apart d m.depth nest a.0 ∙ ap (behind_deeper m.depth) same)
    ∙ ap (λ n. NestOf m.depth m.dimensions n (behind_deeper m.depth (nest_of as'))) (sym (deeper_twice d m.depth nest a.0) ∙ ap (deeper m.depth) same))

back : (d : ℕ) (as' bs : List Member) → AreDeeper d as' → IsBack d bs → behind_deeper d (nest_of (as' ++ bs)) ≡ nest_of bs
back d [] [] a b = refl
back d [] (m ∷ bs) a b = behind_no d m.depth m.dimensions (deeper m.depth (nest_of bs)) (behind_deeper m.depth (nest_of bs)) b
back d (m ∷ as') bs a b =
    let nest = nest_of (as' ++ bs) in
    behind_yes d m.depth m.dimensions (deeper m.depth nest) (behind_deeper m.depth nest) a.0
    ∙ (behind_twice d m.depth nest a.0 ∙ back d as' bs a.1 b)

-- ---- the depths of the members of parts

both_deeper : (d : ℕ) (as' bs : List Member) → AreDeeper d as' → AreDeeper d bs → AreDeeper d (as' ++ bs)
both_deeper d [] bs a b = b
both_deeper d (m ∷ as') bs a b = (a.0, both_deeper d as' bs a.1 b)

are_deeper : (d depth : ℕ) (ps : List Part) (skip size : ℕ) → d < depth → AreDeeper d (members_from depth ps skip size)
are_deeper d depth [] skip size h = tt
are_deeper d depth (p ∷ ps) (suc skip) size h = are_deeper d depth ps skip size h
are_deeper d depth (p ∷ ps) zero zero h = tt
are_deeper d depth (p ∷ ps) zero (suc size) h =
    (h, both_deeper d (members_from (suc depth) ps 0 p.inside) (members_from depth ps p.inside (size - p.inside)) (are_deeper d (suc depth) ps 0 p.inside (omega (arith, h))) (are_deeper d depth ps p.inside (size - p.inside) h))

is_back : (depth : ℕ) (ps : List Part) (skip size : ℕ) → IsBack depth (members_from depth ps skip size)
is_back depth [] skip size = tt
is_back depth (p ∷ ps) (suc skip) size = is_back depth ps skip size
is_back depth (p ∷ ps) zero zero = tt
is_back depth (p ∷ ps) zero (suc size) = omega arith

nests : (depth : ℕ) (ps : List Part) (skip size : ℕ) → nest_of (members_from depth ps skip size) ≡ nest_from depth ps skip size
nests depth [] skip size = refl
nests depth (p ∷ ps) (suc skip) size = nests depth ps skip size
nests depth (p ∷ ps) zero zero = refl
nests depth (p ∷ ps) zero (suc size) =
    let inside = members_from (suc depth) ps 0 p.inside in
    let behind = members_from depth ps p.inside (size - p.inside) in
    let far = are_deeper depth (suc depth) ps 0 p.inside (omega arith) in
    let near = is_back depth ps p.inside (size - p.inside) in
    ap (λ n. NestOf depth p.dimensions n (behind_deeper depth (nest_of (inside ++ behind)))) (front depth inside behind far near ∙ nests (suc depth) ps 0 p.inside)
    ∙ ap (NestOf depth p.dimensions (nest_from (suc depth) ps 0 p.inside)) (back depth inside behind far near ∙ nests depth ps p.inside (size - p.inside))

pub nest_of_parts : (ps : List Part) → nest_of (members_of ps) ≡ nest_in ps
nest_of_parts ps = nests 0 ps 0 (length ps)

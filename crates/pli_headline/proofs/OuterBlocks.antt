-- Blocks that stand above one around them, each inside the next: the ancestor of that block's level is the activation of that block.
use Rattle.std.proofs.Common.{◌≡◌, ℕ, zero, suc, ◌+◌, ◌<◌, ◌≤◌, ◌⊎◌, inl, inr, List, [], ◌∷◌, length, Some, false, refl, sym, ap, ◌∙◌, arith}
use Rattle.std.specs.Prelude.{cond, ◌==◌}
use Rattle.std.proofs.lemmas.Bool.{eq-eqb}
use Rattle.std.proofs.lemmas.Bool.Decides.{nat_tests}
use Rattle.pli_meaning.specs.StorageState.{Activation, newest_height, ancestor, height_of}
use Rattle.pli_serving.specs.ServiceState as S
use Rattle.pli_headline.proofs.Activations.{Nested, levels_of, first_level, behind_level, entered_length, own_is, outermost_height}

-- so many blocks stand above a frame of a level, each with its frame above it, and of the next level, or above the main procedure's; what
-- stands behind it
abbrev pub Rises : (count frame level : ℕ) → (frames levels behind depths : List ℕ) → Type 0
Rises zero frame level frames levels behind depths = (frames ≡ frame ∷ behind) × (levels ≡ level ∷ depths)
Rises (suc m) frame level [] levels behind depths = ⊥
Rises (suc m) frame level (x ∷ xs) [] behind depths = ⊥
Rises (suc m) frame level (x ∷ xs) (l ∷ ls) behind depths =
    ((frame < x) × ((l ≡ suc (first_level ls)) ⊎ ((level ≡ 0) × (depths ≡ [])))) × Rises m frame level xs ls behind depths

pub risen_length : (m frame level : ℕ) (frames levels behind depths : List ℕ) → Rises m frame level frames levels behind depths → length levels ≡ m + suc (length depths)
risen_length zero frame level frames levels behind depths rises =
    let same = ap (λ (ls : List ℕ). length ls) rises.1 in
    omega (arith, same)
risen_length (suc m) frame level [] levels behind depths rises = absurd rises
risen_length (suc m) frame level (x ∷ xs) [] behind depths rises = absurd rises
risen_length (suc m) frame level (x ∷ xs) (l ∷ ls) behind depths rises =
    let rest = risen_length m frame level xs ls behind depths rises.1 in
    omega (arith, rest)

least_by : (level l top : ℕ) (depths : List ℕ) → (l ≡ suc top) ⊎ ((level ≡ 0) × (depths ≡ [])) → level ≤ top → level ≤ l
least_by level l top depths (inl next) rest = omega (arith, next, rest)
least_by level l top depths (inr h) rest = let lowest = h.0 in omega (arith, lowest)

pub risen_least : (m frame level : ℕ) (frames levels behind depths : List ℕ) → Rises m frame level frames levels behind depths → level ≤ first_level levels
risen_least zero frame level frames levels behind depths rises =
    let same : first_level levels ≡ level = ap first_level rises.1 in
    omega (arith, same)
risen_least (suc m) frame level [] levels behind depths rises = absurd rises
risen_least (suc m) frame level (x ∷ xs) [] behind depths rises = absurd rises
risen_least (suc m) frame level (x ∷ xs) (l ∷ ls) behind depths rises =
    least_by level l (first_level ls) depths rises.0.1 (risen_least m frame level xs ls behind depths rises.1)

newest_of : (as' : List Activation) (xs : List S.Activation) → Nested as' xs → 0 < length as' → newest_height as' ≡ length as'
newest_of [] xs nested some = absurd (omega (arith, some))
newest_of (a ∷ as') [] nested some = absurd nested
newest_of (a ∷ as') (x ∷ xs) nested some = nested.0.height

-- past the newest one
height_by : (level l : ℕ) (levels depths : List ℕ) (a : Activation) (as' : List Activation) (y : S.Activation) (ys : List S.Activation) → Nested (a ∷ as') (y ∷ ys) → a.level ≡ l → levels_of as' ≡ levels → 0 < length as' → level ≤ first_level levels → (l ≡ suc (first_level levels)) ⊎ ((level ≡ 0) × (depths ≡ [])) → height_of (ancestor as' (newest_height as') level) ≡ suc (length depths) → height_of (ancestor (a ∷ as') a.height level) ≡ suc (length depths)
height_by level l levels depths a as' y ys nested above below some least (inl next) rest =
    let here = eq-eqb a.height a.height refl in
    let other : (a.level == level) ≡ false = grind (arith, nat_tests) in
    let parent = nested.0.direct (above ∙ next ∙ ap (λ (us : List ℕ). suc (first_level us)) (sym below)) in
    let newest = newest_of as' ys nested.1.1 some in
    ap (λ q. height_of (cond q (cond (a.level == level) (Some a) (ancestor as' a.parent level)) (ancestor as' a.height level))) here
    ∙ ap (λ q. height_of (cond q (Some a) (ancestor as' a.parent level))) other
    ∙ ap (λ h. height_of (ancestor as' h level)) (parent ∙ sym newest)
    ∙ rest
height_by level l levels depths a as' y ys nested above below some least (inr h) rest =
    ap (λ n. height_of (ancestor (a ∷ as') a.height n)) h.0
    ∙ outermost_height (a ∷ as') (y ∷ ys) (length as') nested refl
    ∙ sym (ap (λ (ds : List ℕ). suc (length ds)) h.1)

pub risen_height : (m frame level : ℕ) (frames levels behind depths : List ℕ) (as' : List Activation) (xs : List S.Activation) → Nested as' xs → levels_of as' ≡ levels → Rises m frame level frames levels behind depths → height_of (ancestor as' (newest_height as') level) ≡ suc (length depths)
risen_height zero frame level frames levels behind depths as' xs nested entered rises =
    own_is as' xs level depths nested (entered ∙ rises.1)
risen_height (suc m) frame level [] levels behind depths as' xs nested entered rises = absurd rises
risen_height (suc m) frame level (x ∷ fs) [] behind depths as' xs nested entered rises = absurd rises
risen_height (suc m) frame level (x ∷ fs) (l ∷ ls) behind depths [] xs nested entered rises = absurd (cc entered)
risen_height (suc m) frame level (x ∷ fs) (l ∷ ls) behind depths (a ∷ as') [] nested entered rises = absurd nested
risen_height (suc m) frame level (x ∷ fs) (l ∷ ls) behind depths (a ∷ as') (y ∷ ys) nested entered rises =
    let below : levels_of as' ≡ ls = ap behind_level entered in
    let long = risen_length m frame level fs ls behind depths rises.1 in
    let many = entered_length as' ls below in
    height_by level l ls depths a as' y ys nested (ap first_level entered) below (omega (arith, many, long)) (risen_least m frame level fs ls behind depths rises.1) rises.0.1
    (risen_height m frame level fs ls behind depths as' ys nested.1.1 below rises.1)

-- the frame of the newest block lies above it
pub risen_over : (m frame level : ℕ) (frames levels behind depths : List ℕ) (top : ℕ) (lead : List ℕ) → frames ≡ top ∷ lead → Rises (suc m) frame level frames levels behind depths → frame < top
risen_over m frame level [] levels behind depths top lead first rises = absurd rises
risen_over m frame level (x ∷ fs) [] behind depths top lead first rises = absurd rises
risen_over m frame level (x ∷ fs) (l ∷ ls) behind depths top lead first rises =
    let same : x ≡ top = ap first_level first in
    let above = rises.0.0 in
    omega (arith, same, above)

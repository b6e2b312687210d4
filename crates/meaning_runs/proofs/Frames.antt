-- Frames: of which block each activation is, which lists are carried out in it, and that the activations of the blocks
-- around a place are the static ancestors, with a list for each label that a jump from there may name.
use Rattle.std.proofs.Common.{◌≡◌, ℕ, suc, ◌<◌, ◌≤◌, List, [], ◌∷◌, ◌++◌, Some, Bool, true}
use Rattle.std.proofs.Common.{false, refl, ap, sym, ◌∙◌, subst, arith}
use Rattle.std.proofs.Common.{inl, inr}
use Rattle.std.specs.Prelude.{◌==◌, ◌||◌, cond, ⊤, ◌⊎◌, length, slice_get}
use Rattle.std.specs.List.{list_any}
use Rattle.std.proofs.lemmas.Bool.Decides.{nat_tests}
use Rattle.std.proofs.lemmas.List.Folds.{list_any-append}
use Rattle.pli_language.specs.Keywords.{same_bytes}
use Rattle.pli_meaning.specs.StorageState.{Activation, ancestor, height_of, newest_height}
use Rattle.well_formed_trees.specs.Surroundings.{Label, is_among, Around, Table, labels_of, IsAround, IsTarget}

-- ---- labels

-- those of one list are among those of another
abbrev pub AreAmong : List Label → List Label → Type 0
AreAmong xs ys = (label : Label) → is_among label xs ≡ true → is_among label ys ≡ true

or_right : (t : Bool) → (t || true) ≡ true
or_right true = refl
or_right false = refl

pub among_first : (label : Label) (xs ys : List Label) → is_among label xs ≡ true → is_among label (xs ++ ys) ≡ true
among_first label xs ys h =
    list_any-append (same_bytes label) xs ys ∙ ap (λ t. t || list_any (same_bytes label) ys) h

pub among_second : (label : Label) (xs ys : List Label) → is_among label ys ≡ true → is_among label (xs ++ ys) ≡ true
among_second label xs ys h =
    list_any-append (same_bytes label) xs ys
    ∙ (ap (λ t. list_any (same_bytes label) xs || t) h ∙ or_right (list_any (same_bytes label) xs))

pub among_either : (label : Label) (xs ys : List Label) → is_among label (xs ++ ys) ≡ true
    → (is_among label xs ≡ true) ⊎ (is_among label ys ≡ true)
among_either label xs ys h =
    of_tests (list_any (same_bytes label) xs) (list_any (same_bytes label) ys)
    (sym (list_any-append (same_bytes label) xs ys) ∙ h)
  where
    of_tests : (t u : Bool) → (t || u) ≡ true → (t ≡ true) ⊎ (u ≡ true)
    of_tests true u e = inl refl
    of_tests false u e = inr e

-- ---- frames

-- the height, the level and the static parent of an activation
pub record Outline : Type 0 where
  pub height : ℕ
  pub level : ℕ
  pub parent : ℕ

-- an activation: the number of its block, its level, its parent, the labels that stay as long as it has on-units, and
-- those of the lists that are carried out in it
pub record Frame : Type 0 where
  pub number : ℕ
  pub level : ℕ
  pub parent : ℕ
  pub lasting : List Label
  pub labels : List Label

-- the outlines of frames, newest first: heights count from 1
abbrev pub outlines : List Frame → List Outline
outlines [] = []
outlines (f ∷ fs) =
    record { height = suc (length fs); level = f.level; parent = f.parent } ∷ outlines fs

abbrev pub skeleton : List Activation → List Outline
skeleton [] = []
skeleton (a ∷ as') = record { height = a.height; level = a.level; parent = a.parent } ∷ skeleton as'

-- as a unit may count on it
abbrev pub closed : Frame → Frame
closed f =
    record { number = f.number; level = f.level; parent = f.parent; lasting = f.lasting; labels = f.lasting }

-- in one more list
abbrev pub with_labels : List Label → List Frame → List Frame
with_labels labels [] = []
with_labels labels (f ∷ fs) =
    record {
      number = f.number;
      level = f.level;
      parent = f.parent;
      lasting = f.lasting;
      labels = labels ++ f.labels;
    }
    ∷ fs

-- the labels that stay are of lists that are carried out
abbrev pub IsOpen : Frame → Type 0
IsOpen f = AreAmong f.lasting f.labels

-- ---- blocks around

-- an activation of a block
abbrev pub IsOf : Frame → Around → Type 0
IsOf f a = (f.level ≡ a.level) × (f.number ≡ a.number)

-- the blocks around a place are those of the activation at a height and of its static ancestors
abbrev pub Stands : List Frame → (height : ℕ) → List Around → Type 0
Stands fs height [] = ⊤
Stands [] height (a ∷ more) = ⊥
Stands (f ∷ fs) height (a ∷ more) =
    ((height ≡ suc (length fs)) × (IsOf f a × (AreAmong (labels_of a) f.labels × Stands fs f.parent more)))
    ⊎ ((height ≤ length fs) × Stands fs height (a ∷ more))

-- whichever lists are carried out
abbrev pub Holds : List Frame → (height : ℕ) → List Around → Type 0
Holds fs height [] = ⊤
Holds [] height (a ∷ more) = ⊥
Holds (f ∷ fs) height (a ∷ more) =
    ((height ≡ suc (length fs)) × (IsOf f a × Holds fs f.parent more))
    ⊎ ((height ≤ length fs) × Holds fs height (a ∷ more))

pub holds_of : (fs : List Frame) (height : ℕ) (around : List Around) → Stands fs height around
    → Holds fs height around
holds_of fs height [] h = tt
holds_of [] height (a ∷ more) h = absurd h
holds_of (f ∷ fs) height (a ∷ more) (inl h) = inl (h.0, (h.1.0, holds_of fs f.parent more h.1.1.1))
holds_of (f ∷ fs) height (a ∷ more) (inr h) = inr (h.0, holds_of fs height (a ∷ more) h.1)

-- an entry of the table with the number of a block around is no deeper, and that block's own if it has the level
abbrev pub Enters : Table → Around → List Around → Type 0
Enters table a more =
    (o : Around) (outer : List Around) → slice_get table a.number ≡ Some (o ∷ outer)
    → (o.level ≤ a.level)
    × (o.level ≡ a.level → (more ≡ outer) × ((o.inner ≡ []) × AreAmong o.outermost a.outermost))

abbrev pub IsUnder : (level : ℕ) → List Around → Type 0
IsUnder level [] = ⊤
IsUnder level (a ∷ more) = a.level < level

-- what stands around a block in the table stands around it here, too
abbrev pub Covers : Table → Around → List Around → Type 0
Covers table a more =
    (entry : List Around) → slice_get table a.number ≡ Some entry → (number level : ℕ) → IsAround number level entry
    → IsAround number level (a ∷ more)

-- the blocks around are as the table has them, each at a level of its own
abbrev pub Chain : Table → List Around → Type 0
Chain table [] = ⊤
Chain table (a ∷ more) = (Enters table a more × Covers table a more) × (IsUnder a.level more × Chain table more)

pub covers_own : (table : Table) (a o : Around) (more : List Around) → slice_get table a.number ≡ Some (o ∷ more)
    → o.level ≡ a.level → o.number ≡ a.number → Covers table a more
covers_own table a o more e same number_is entry f number level h =
    let all : o ∷ more ≡ entry = cc (e, f) in
    by_own (subst (λ x. IsAround number level x) (sym all) h)
  where
    by_own : IsAround number level (o ∷ more) → IsAround number level (a ∷ more)
    by_own (inl h) = inl (sym number_is ∙ h.0, sym same ∙ h.1)
    by_own (inr h) = inr h

-- so it does around each block of a chain
pub covered : (table : Table) (block level : ℕ) (around entry : List Around) → Chain table around
    → IsAround block level around → slice_get table block ≡ Some entry → (n l : ℕ) → IsAround n l entry
    → IsAround n l around
covered table block level [] entry c h e n l i = absurd h
covered table block level (a ∷ more) entry c (inl h) e n l i =
    c.0.1 entry (subst (λ x. slice_get table x ≡ Some entry) (sym h.0) e) n l i
covered table block level (a ∷ more) entry c (inr h) e n l i =
    inr (covered table block level more entry c.1.1 h e n l i)

pub enters_own : (table : Table) (a o : Around) (more : List Around) → slice_get table a.number ≡ Some (o ∷ more)
    → o.level ≡ a.level → o.inner ≡ [] → AreAmong o.outermost a.outermost → Enters table a more
enters_own table a o more e same bare h o' outer f =
    let both : Some (o ∷ more) ≡ Some (o' ∷ outer) = sym e ∙ f in
    let first : o ≡ o' = cc both in
    let others : more ≡ outer = cc both in
    subst (λ x. (x.level ≤ a.level)
    × (x.level ≡ a.level → (more ≡ outer) × ((x.inner ≡ []) × AreAmong x.outermost a.outermost))) first
    (omega (arith, same), λ q. (others, (bare, h)))

-- ---- where a block stands

pub stands_low : (fs : List Frame) (height : ℕ) (a : Around) (more : List Around)
    → Stands fs height (a ∷ more) → height ≤ length fs
stands_low [] height a more h = absurd h
stands_low (f ∷ fs) height a more (inl h) = omega (arith, h.0)
stands_low (f ∷ fs) height a more (inr h) = omega (arith, h.0)

-- under one more activation
pub stands_under : (f : Frame) (fs : List Frame) (height : ℕ) (around : List Around)
    → Stands fs height around → Stands (f ∷ fs) height around
stands_under f fs height [] h = tt
stands_under f fs height (a ∷ more) h = inr (stands_low fs height a more h, h)

-- where more lists are carried out
pub stands_wider : (f e : Frame) (fs : List Frame) (height : ℕ) (around : List Around)
    → f.number ≡ e.number → f.level ≡ e.level → f.parent ≡ e.parent → AreAmong f.labels e.labels
    → Stands (f ∷ fs) height around → Stands (e ∷ fs) height around
stands_wider f e fs height [] n l u o h = tt
stands_wider f e fs height (a ∷ more) n l u o (inl h) =
    inl (
      h.0,
      (
        (sym l ∙ h.1.0.0, sym n ∙ h.1.0.1),
        (λ label x. o label (h.1.1.0 label x), subst (λ z. Stands fs z more) u h.1.1.1),
      ),
    )
stands_wider f e fs height (a ∷ more) n l u o (inr h) = inr h

-- for a block with fewer labels
pub stands_as : (fs : List Frame) (height : ℕ) (a b : Around) (more : List Around)
    → a.number ≡ b.number → a.level ≡ b.level → AreAmong (labels_of b) (labels_of a) → Stands fs height (a ∷ more)
    → Stands fs height (b ∷ more)
stands_as [] height a b more n e h s = absurd s
stands_as (f ∷ fs) height a b more n e h (inl s) =
    inl (s.0, ((s.1.0.0 ∙ e, s.1.0.1 ∙ n), (λ label x. s.1.1.0 label (h label x), s.1.1.1)))
stands_as (f ∷ fs) height a b more n e h (inr s) = inr (s.0, stands_as fs height a b more n e h s.1)

-- ---- the static ancestor at a level

-- a block around at a level, of which something is so
abbrev pub AtLevel : (level : ℕ) → (Around → Type 0) → List Around → Type 0
AtLevel level Q [] = ⊥
AtLevel level Q (a ∷ more) = ((a.level ≡ level) × Q a) ⊎ AtLevel level Q more

pub target_at : (level : ℕ) (label : Label) (around : List Around) → IsTarget level label around
    → AtLevel level (λ a. is_among label (labels_of a) ≡ true) around
target_at level label [] h = absurd h
target_at level label (a ∷ more) (inl h) = inl h
target_at level label (a ∷ more) (inr h) = inr (target_at level label more h)

pub around_at : (number level : ℕ) (around : List Around) → IsAround number level around
    → AtLevel level (λ a. a.number ≡ number) around
around_at number level [] h = absurd h
around_at number level (a ∷ more) (inl h) = inl (h.1, h.0)
around_at number level (a ∷ more) (inr h) = inr (around_at number level more h)

-- those further out have lower levels
pub lower_level : (table : Table) (level top : ℕ) (Q : Around → Type 0) (around : List Around) → IsUnder top around
    → Chain table around → AtLevel level Q around → level < top
lower_level table level top Q [] u c h = absurd h
lower_level table level top Q (a ∷ more) u c (inl h) = omega (arith, h.0, u)
lower_level table level top Q (a ∷ more) u c (inr h) =
    let less : level < a.level = lower_level table level a.level Q more c.1.0 c.1.1 h in omega (arith, less, u)

-- the block and the ones around it stand at a height
pub record Reached (table : Table) (fs : List Frame) (height level : ℕ) (Q : Around → Type 0) : Type 0
  where
    pub own : Around
    pub outer : List Around
    pub level_is : own.level ≡ level
    pub so : Q own
    pub stands : Stands fs height (own ∷ outer)
    pub chain : Chain table (own ∷ outer)

raised : (table : Table) (f : Frame) (fs : List Frame) (height level : ℕ) (Q : Around → Type 0)
    → Reached table fs height level Q → Reached table (f ∷ fs) height level Q
raised table f fs height level Q r =
    record {
      own = r.own;
      outer = r.outer;
      level_is = r.level_is;
      so = r.so;
      stands = stands_under f fs height (r.own ∷ r.outer) r.stands;
      chain = r.chain;
    }

abbrev pub first_outline : List Outline → Outline
first_outline [] = record { height = 0; level = 0; parent = 0 }
first_outline (x ∷ xs) = x

abbrev pub rest_outlines : List Outline → List Outline
rest_outlines [] = []
rest_outlines (x ∷ xs) = xs

nat_same : (a b : ℕ) → a ≡ b → (a == b) ≡ true
nat_same a b e = grind (arith, nat_tests, e)

nat_apart : (a b : ℕ) → a < b → (a == b) ≡ false
nat_apart a b e = grind (arith, nat_tests, e)

pub chosen : {X : Type 0} (t : Bool) (x y : X) → t ≡ true → cond t x y ≡ x
chosen true x y e = refl
chosen false x y e = absurd (cc e)

pub passed_over : {X : Type 0} (t : Bool) (x y : X) → t ≡ false → cond t x y ≡ y
passed_over true x y e = absurd (cc e)
passed_over false x y e = refl

pub reached : (table : Table) (level : ℕ) (Q : Around → Type 0) (fs : List Frame)
    (as' : List Activation) (height : ℕ) (around : List Around) → skeleton as' ≡ outlines fs
    → Stands fs height around → Chain table around → AtLevel level Q around
    → Reached table fs (height_of (ancestor as' height level)) level Q
reached table level Q fs as' height [] e s c h = absurd h
reached table level Q [] as' height (a ∷ more) e s c h = absurd s
reached table level Q (f ∷ fs) [] height (a ∷ more) e s c h = absurd (cc e)
reached table level Q (f ∷ fs) (x ∷ xs) height (a ∷ more) e (inl s) c (inl h) =
    let at : x.height ≡ suc (length fs) = ap (λ os. (first_outline os).height) e in
    let deep : x.level ≡ f.level = ap (λ os. (first_outline os).level) e in
    let here : (x.height == height) ≡ true = nat_same x.height height (at ∙ sym s.0) in
    let own : (x.level == level) ≡ true = nat_same x.level level (deep ∙ (s.1.0.0 ∙ h.0)) in
    let found : ancestor (x ∷ xs) height level ≡ Some x =
    chosen (x.height == height) _ _ here ∙ chosen (x.level == level) _ _ own in
    let same : height_of (ancestor (x ∷ xs) height level) ≡ height = ap height_of found ∙ (at ∙ sym s.0) in
    subst (λ z. Reached table (f ∷ fs) z level Q) (sym same)
    (record { own = a; outer = more; level_is = h.0; so = h.1; stands = inl s; chain = c })
reached table level Q (f ∷ fs) (x ∷ xs) height (a ∷ more) e (inl s) c (inr h) =
    let at : x.height ≡ suc (length fs) = ap (λ os. (first_outline os).height) e in
    let deep : x.level ≡ f.level = ap (λ os. (first_outline os).level) e in
    let up : x.parent ≡ f.parent = ap (λ os. (first_outline os).parent) e in
    let here : (x.height == height) ≡ true = nat_same x.height height (at ∙ sym s.0) in
    let less : level < a.level = lower_level table level a.level Q more c.1.0 c.1.1 h in
    let other : (x.level == level) ≡ false = grind (arith, nat_tests, less, deep, s.1.0.0) in
    let found : ancestor (x ∷ xs) height level ≡ ancestor xs f.parent level =
    chosen (x.height == height) _ _ here
    ∙ (passed_over (x.level == level) _ _ other ∙ ap (λ z. ancestor xs z level) up) in
    subst (λ o. Reached table (f ∷ fs) (height_of o) level Q) (sym found)
    (raised table f fs _ level Q
    (reached table level Q fs xs f.parent more (ap rest_outlines e) s.1.1.1 c.1.1 h))
reached table level Q (f ∷ fs) (x ∷ xs) height (a ∷ more) e (inr s) c h =
    let at : x.height ≡ suc (length fs) = ap (λ os. (first_outline os).height) e in
    let other : (x.height == height) ≡ false = grind (arith, nat_tests, at, s.0) in
    let found : ancestor (x ∷ xs) height level ≡ ancestor xs height level =
    passed_over (x.height == height) _ _ other in
    subst (λ o. Reached table (f ∷ fs) (height_of o) level Q) (sym found)
    (raised table f fs _ level Q (reached table level Q fs xs height (a ∷ more) (ap rest_outlines e) s.1 c h))

-- the newest activation is as high as there are frames
pub newest_ancestor : (fs : List Frame) (as' : List Activation) (level : ℕ) → skeleton as' ≡ outlines fs
    → ancestor as' (newest_height as') level ≡ ancestor as' (length fs) level
newest_ancestor fs [] level e = refl
newest_ancestor [] (a ∷ as') level e = absurd (cc e)
newest_ancestor (f ∷ fs) (a ∷ as') level e =
    ap (λ z. ancestor (a ∷ as') z level) (ap (λ os. (first_outline os).height) e)

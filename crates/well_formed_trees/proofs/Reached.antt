-- The labels that a context has are in lists around, wherever it goes in.
use Rattle.std.proofs.Common.{◌≡◌, ℕ, ◌+◌, Bool, true, false, ◌||◌, List, [], ◌∷◌, ◌++◌, Some, refl}
use Rattle.std.proofs.Common.{sym, ap, ◌∙◌, subst, inl, inr, length}
use Rattle.std.specs.Prelude.{slice_get, ◌⊎◌}
use Rattle.pli_language.specs.Keywords.{same_bytes}
use Rattle.pli_language.specs.Tree as T
use Rattle.pli_language.specs.Declarations as D
use Rattle.pli_language.specs.Declarations.{Block, Declaration, declared_in, declared_in_item, declared_in_stmt}
use Rattle.pli_language.specs.Declarations.{labels_declared}
use Rattle.pli_typing.specs.SingleStatements as S
use Rattle.pli_typing.specs.SingleStatements.{Context}
use Rattle.pli_typing.specs.Variables.{level_of_block}
use Rattle.pli_typing.specs.Resolving.{letters_of}
use Rattle.well_formed_trees.specs.Every.{Every}
use Rattle.well_formed_trees.specs.Surroundings.{Label, Around, IsTarget, is_among, labels_of}
use Rattle.well_formed_trees.proofs.Lists.{every_both, every_map}
use Rattle.well_formed_trees.proofs.Letters.{same_self}
use Rattle.well_formed_trees.proofs.Places.{HasAt, has_first, has_second}
use Rattle.well_formed_trees.proofs.Facts.{IsSeen, IsReached}

-- ---- labels among labels

among_first : (l : Label) (ls ks : List Label) → is_among l ls ≡ true → is_among l (ls ++ ks) ≡ true
among_first l [] ks e = absurd (cc e)
among_first l (k ∷ ls) ks e = by (same_bytes l k) e (among_first l ls ks) where
  by : (b : Bool) → (b || is_among l ls) ≡ true → (is_among l ls ≡ true → is_among l (ls ++ ks) ≡ true)
      → (b || is_among l (ls ++ ks)) ≡ true
  by true e k = refl
  by false e k = k e

among_second : (l : Label) (ls ks : List Label) → is_among l ks ≡ true → is_among l (ls ++ ks) ≡ true
among_second l [] ks e = e
among_second l (k ∷ ls) ks e = by (same_bytes l k) (among_second l ls ks e) where
  by : (b : Bool) → is_among l (ls ++ ks) ≡ true → (b || is_among l (ls ++ ks)) ≡ true
  by true e = refl
  by false e = e

among_either : (l : Label) (ls ks : List Label) → is_among l (ls ++ ks) ≡ true
    → (is_among l ls ≡ true) ⊎ (is_among l ks ≡ true)
among_either l [] ks e = inr e
among_either l (k ∷ ls) ks e = by (same_bytes l k) e (among_either l ls ks) where
  by : (b : Bool) → (b || is_among l (ls ++ ks)) ≡ true
      → (is_among l (ls ++ ks) ≡ true → (is_among l ls ≡ true) ⊎ (is_among l ks ≡ true))
      → ((b || is_among l ls) ≡ true) ⊎ (is_among l ks ≡ true)
  by true e k = inl refl
  by false e k = k e

-- ---- going in

abbrev pub without : Around → Around
without a = record a { inner = [] }

abbrev pub with_labels : List Label → Around → Around
with_labels ls a = record a { inner = ls ++ a.inner }

target_kept : (level : ℕ) (l : Label) (a b : Around) (more : List Around) → a.level ≡ b.level
    → (is_among l (labels_of a) ≡ true → is_among l (labels_of b) ≡ true) → IsTarget level l (a ∷ more)
    → IsTarget level l (b ∷ more)
target_kept level l a b more e f (inl h) = inl (sym e ∙ h.0, f h.1)
target_kept level l a b more e f (inr h) = inr h

-- from the labels of the outermost list to all
labels_back : (l : Label) (a : Around) → is_among l (labels_of (without a)) ≡ true → is_among l (labels_of a) ≡ true
labels_back l a e = among_second l a.inner a.outermost e

labels_further : (ls : List Label) (l : Label) (a : Around) → is_among l (labels_of a) ≡ true
    → is_among l (labels_of (with_labels ls a)) ≡ true
labels_further ls l a e = by (among_either l a.inner a.outermost e) where
  by : (is_among l a.inner ≡ true) ⊎ (is_among l a.outermost ≡ true)
      → is_among l ((ls ++ a.inner) ++ a.outermost) ≡ true
  by (inl h) = among_first l (ls ++ a.inner) a.outermost (among_second l ls a.inner h)
  by (inr h) = among_second l (ls ++ a.inner) a.outermost h

moved : (blocks : List Block) (v w : List Around) (n : T.Name)
    → ((level : ℕ) → IsTarget level n.letters v → IsTarget level n.letters w) → IsReached blocks v n
    → IsReached blocks w n
moved blocks v w n f h = record {
  number = h.number;
  index = h.index;
  is_in = h.is_in;
  target = f (level_of_block blocks h.number) h.target;
}

pub reached_back : (blocks : List Block) (a : Around) (more : List Around) (ns : List T.Name)
    → Every (IsReached blocks (without a ∷ more)) ns → Every (IsReached blocks (a ∷ more)) ns
reached_back blocks a more ns h =
    every_map (IsReached blocks (without a ∷ more)) (IsReached blocks (a ∷ more))
    (λ n r. moved blocks (without a ∷ more) (a ∷ more) n
    (λ level t. target_kept level n.letters (without a) a more refl (labels_back n.letters a) t) r) ns h

pub reached_further : (blocks : List Block) (ls : List Label) (a : Around) (more : List Around) (ns : List T.Name)
    → Every (IsReached blocks (a ∷ more)) ns → Every (IsReached blocks (with_labels ls a ∷ more)) ns
reached_further blocks ls a more ns h =
    every_map (IsReached blocks (a ∷ more)) (IsReached blocks (with_labels ls a ∷ more))
    (λ n r. moved blocks (a ∷ more) (with_labels ls a ∷ more) n
    (λ level t. target_kept level n.letters a (with_labels ls a) more refl (labels_further ls n.letters a) t) r) ns h

pub reached_inside : (blocks : List Block) (a : Around) (more : List Around) (ns : List T.Name)
    → Every (IsReached blocks more) ns → Every (IsReached blocks (a ∷ more)) ns
reached_inside blocks a more ns h =
    every_map (IsReached blocks more) (IsReached blocks (a ∷ more))
    (λ n r. moved blocks more (a ∷ more) n (λ level t. inr t) r) ns h

-- ---- a list's own labels

-- a label is declared in a block
record IsDeclaredLabel (block : Block) (n : T.Name) : Type 0 where
  index : ℕ
  has : slice_get block.declarations index ≡ Some (record { name = n; what = D.Label })

labels_at : (b : Block) (k : ℕ) (ns : List T.Name) → HasAt b.declarations k (labels_declared ns)
    → Every (IsDeclaredLabel b) ns
labels_at b k [] h = tt
labels_at b k (n ∷ ns) h = (record { index = k; has = h.0 }, labels_at b (k + 1) ns h.1)

list_labels : (b : Block) (k : ℕ) (is : T.Items) → HasAt b.declarations k (declared_in is)
    → Every (IsDeclaredLabel b) (S.labels_in is)
unfolding declared_in declared_in_item
list_labels b k T.NoItem h = tt
list_labels b k (T.ItemThen (T.Procedure head body) is) h =
    let own = declared_in_item (T.Procedure head body) in
    list_labels b (k + length own) is (has_second b.declarations k own (declared_in is) h)
list_labels b k (T.ItemThen (T.Declare items place) is) h =
    let own = declared_in_item (T.Declare items place) in
    list_labels b (k + length own) is (has_second b.declarations k own (declared_in is) h)
list_labels b k (T.ItemThen (T.Statement labels s) is) h =
    let own = labels_declared labels ++ declared_in_stmt s in
    let first = has_first b.declarations k own (declared_in is) h in
    every_both (IsDeclaredLabel b) labels (S.labels_in is)
    (labels_at b k labels (has_first b.declarations k (labels_declared labels) (declared_in_stmt s) first))
    (list_labels b (k + length own) is (has_second b.declarations k own (declared_in is) h))
list_labels b k (T.ItemThen (T.EndLabels labels place) is) h =
    let own = labels_declared labels in
    every_both (IsDeclaredLabel b) labels (S.labels_in is)
    (labels_at b k labels (has_first b.declarations k own (declared_in is) h))
    (list_labels b (k + length own) is (has_second b.declarations k own (declared_in is) h))

-- a name is among the letters of names that it is one of
all_among : (before ns : List T.Name)
    → Every (λ n. is_among n.letters (letters_of (before ++ ns)) ≡ true) ns
all_among before [] = tt
all_among before (n ∷ ns) = (
  here before,
  subst (λ l. Every (λ m. is_among m.letters (letters_of l) ≡ true) ns) (shift before n ns)
      (all_among (before ++ n ∷ []) ns),
) where
  here : (before : List T.Name) → is_among n.letters (letters_of (before ++ n ∷ ns)) ≡ true
  here [] = ap (λ b. b || is_among n.letters (letters_of ns)) (same_self n.letters)
  here (m ∷ ms) = either (same_bytes n.letters m.letters) (here ms) where
    either : (b : Bool) → is_among n.letters (letters_of (ms ++ n ∷ ns)) ≡ true
        → (b || is_among n.letters (letters_of (ms ++ n ∷ ns))) ≡ true
    either true e = refl
    either false e = e

  shift : (before : List T.Name) (n : T.Name) (ns : List T.Name) → (before ++ n ∷ []) ++ ns ≡ before ++ n ∷ ns
  shift [] n ns = refl
  shift (m ∷ ms) n ns = ap (λ l. m ∷ l) (shift ms n ns)

both_reached : (blocks : List Block) (number : ℕ) (b : Block) (a : Around) (more : List Around) (all ns : List T.Name)
    → slice_get blocks number ≡ Some b → a.level ≡ level_of_block blocks number
    → ((l : Label) → is_among l (letters_of all) ≡ true → is_among l (labels_of a) ≡ true)
    → Every (λ n. is_among n.letters (letters_of all) ≡ true) ns → Every (IsDeclaredLabel b) ns
    → Every (IsReached blocks (a ∷ more)) ns
both_reached blocks number b a more all [] e f g m d = tt
both_reached blocks number b a more all (n ∷ ns) e f g m d = (
  record {
    number = number;
    index = d.0.index;
    is_in = record { block = b; has_block = e; has = d.0.has };
    target = inl (f, g n.letters m.0);
  },
  both_reached blocks number b a more all ns e f g m.1 d.1,
)

-- the labels of a block's outermost list
pub outermost_reached : (blocks : List Block) (number k : ℕ) (b : Block) (a : Around) (more : List Around) (is :
    T.Items)
    → slice_get blocks number ≡ Some b → a.level ≡ level_of_block blocks number
    → a.outermost ≡ letters_of (S.labels_in is) → HasAt b.declarations k (declared_in is)
    → Every (IsReached blocks (without a ∷ more)) (S.labels_in is)
outermost_reached blocks number k b a more is e f o h =
    both_reached blocks number b (without a) more (S.labels_in is) (S.labels_in is) e f
    (λ l t. subst (λ ls. is_among l ls ≡ true) (sym o) t) (all_among [] (S.labels_in is)) (list_labels b k is h)

-- those of a group's list
pub group_reached : (blocks : List Block) (number k : ℕ) (b : Block) (a : Around) (more : List Around) (is : T.Items)
    → slice_get blocks number ≡ Some b → a.level ≡ level_of_block blocks number
    → HasAt b.declarations k (declared_in is)
    → Every (IsReached blocks (with_labels (letters_of (S.labels_in is)) a ∷ more)) (S.labels_in is)
group_reached blocks number k b a more is e f h =
    let ls = letters_of (S.labels_in is) in
    both_reached blocks number b (with_labels ls a) more (S.labels_in is) (S.labels_in is) e f
    (λ l t. among_first l (ls ++ a.inner) a.outermost (among_first l ls a.inner t))
    (all_among [] (S.labels_in is)) (list_labels b k is h)

-- ---- blocks around

pub seen_inside : (blocks : List Block) (a : Around) (more : List Around) (ns : List ℕ)
    → Every (IsSeen blocks more) ns → Every (IsSeen blocks (a ∷ more)) ns
seen_inside blocks a more ns h = every_map (IsSeen blocks more) (IsSeen blocks (a ∷ more)) further ns h where
  further : (n : ℕ) → IsSeen blocks more n → IsSeen blocks (a ∷ more) n
  further n (inl e) = inl e
  further n (inr h) = inr (inr h)

-- what is around is seen whatever the labels are
pub seen_same : (blocks : List Block) (a b : Around) (more : List Around) (ns : List ℕ) → a.number ≡ b.number
    → a.level ≡ b.level → Every (IsSeen blocks (a ∷ more)) ns → Every (IsSeen blocks (b ∷ more)) ns
seen_same blocks a b more ns e f h =
    every_map (IsSeen blocks (a ∷ more)) (IsSeen blocks (b ∷ more)) same ns h where
      same : (n : ℕ) → IsSeen blocks (a ∷ more) n → IsSeen blocks (b ∷ more) n
      same n (inl z) = inl z
      same n (inr (inl h)) = inr (inl (sym e ∙ h.0, sym f ∙ h.1))
      same n (inr (inr h)) = inr (inr h)

-- What a name of a variable designates is a part of what is declared, or an element of one.
use Rattle.std.proofs.Common.{◌≡◌, ℕ, zero, suc, ◌+◌, ◌-◌, ◌==◌, Bool, true, false, not, ◌&&◌, List, [], ◌∷◌}
use Rattle.std.proofs.Common.{◌++◌, map, length, Some, None, if◌then◌else◌, refl, sym, ap, ◌∙◌, subst, arith}
use Rattle.std.proofs.Common.{inl, inr}
use Rattle.std.specs.Prelude.{slice_get, nat_lt, unwrap_or, take, drop, ◌⊎◌}
use Rattle.std.proofs.lemmas.Bool.Decides.{nat_tests}
use Rattle.pli_language.specs.Tree as T
use Rattle.pli_language.specs.Declarations.{Variable, Held, Block}
use Rattle.pli_language.specs.Declaring.{has, own_attributes, stands_alone, is_deeper}
use Rattle.pli_language.specs.Declaring.{attributes_clash}
use Rattle.pli_typing.specs.TypedTree as Y
use Rattle.pli_typing.specs.Variables as V
use Rattle.pli_typing.specs.Variables.{WrittenExtent, written_extents, leaves_in, leaf_of, leaves_of, with_members}
use Rattle.pli_typing.specs.Variables.{from_place, part_of, type_of, area_named, area_name, area_found, area_in}
use Rattle.pli_typing.specs.Variables.{what_at}
use Rattle.pli_typing.specs.Variables.{what_of, name_means, variable_meant, declarations_at, members_of, level_of_block}
use Rattle.pli_typing.specs.Variables.{size_of_text, size_of_area, bounds_of, extent_of, initial_items, head_of_block}
use Rattle.pli_typing.specs.Calls.{part_designated, part_leaves, leaf_of_element, without_first}
use Rattle.pli_typing.specs.Converting.{Designated, scalar_type, only_type, area_of_type, is_area}
use Rattle.well_formed_trees.specs.Every.{Every}
use Rattle.well_formed_trees.specs.Members.{IsMember, whole}
use Rattle.well_formed_trees.specs.Surroundings.{Where, IsArea}
use Rattle.well_formed_trees.specs.References.{given_in, IsLocated, leaf_left}
use Rattle.well_formed_trees.specs.Expressions.{SoundLocator, SoundNumbers}
use Rattle.well_formed_trees.proofs.Lists.{every_map}
use Rattle.well_formed_trees.proofs.Places.{same_some, every_at, HasAt, has_end}
use Rattle.well_formed_trees.proofs.KindsSound.{area_written, area_type, area_meant, kind_sound}
use Rattle.well_formed_trees.proofs.Structures.{AreHeld, IsStructure}
use Rattle.well_formed_trees.proofs.MemberParts.{part_of_member, part_same, one_leaf, structure_dimensions}
use Rattle.well_formed_trees.proofs.MemberParts.{mapped_at, drop_there}
use Rattle.well_formed_trees.proofs.FineVariables.{IsFineMember, IsFineVariable, all_fine, no_clash, IsOnlyArea}
use Rattle.well_formed_trees.proofs.FineVariables.{only_area}
use Rattle.well_formed_trees.proofs.FineVariables.{held_not_alone}
use Rattle.well_formed_trees.proofs.Facts.{Facts, IsSeen, IsVisible}
use Rattle.well_formed_trees.proofs.MeantVariables.{DeclaresVariable, IsMeant, is_meant, typed_variable, is_declared}
use Rattle.well_formed_trees.proofs.FitValues.{IsSoundType, IsSingle, IsPart}

-- ---- leaves of members

every_leaf : (P : Held → Type 0) (hs : List Held) → Every P hs → Every P (leaves_in hs)
every_leaf P [] h = tt
every_leaf P (a ∷ []) h = h
every_leaf P (a ∷ b ∷ more) h = by (is_deeper a b) (every_leaf P (b ∷ more) h.1) where
  by : (t : Bool) → Every P (leaves_in (b ∷ more))
      → Every P (if t then leaves_in (b ∷ more) else a ∷ leaves_in (b ∷ more))
  by true k = k
  by false k = (h.0, k)

every_mapped : {X Z : Type 0} (P : Z → Type 0) (f : X → Z) (xs : List X) → Every (λ x. P (f x)) xs → Every P (map f xs)
every_mapped P f [] h = tt
every_mapped P f (x ∷ xs) h = (h.0, every_mapped P f xs h.1)

every_take : {X : Type 0} (P : X → Type 0) (n : ℕ) (xs : List X) → Every P xs → Every P (take n xs)
every_take P zero xs h = tt
every_take P (suc n) [] h = tt
every_take P (suc n) (x ∷ xs) h = (h.0, every_take P n xs h.1)

every_drop : {X : Type 0} (P : X → Type 0) (n : ℕ) (xs : List X) → Every P xs → Every P (drop n xs)
every_drop P zero xs h = h
every_drop P (suc n) [] h = tt
every_drop P (suc n) (x ∷ xs) h = every_drop P n xs h.1

without_is : {X : Type 0} (bounds : List Y.Bounds) (xs : List X) → without_first bounds xs ≡ drop (length xs) bounds
without_is bounds [] = refl
without_is [] (x ∷ xs) = refl
without_is (b ∷ bounds) (x ∷ xs) = without_is bounds xs

-- the leaves of an element, and those of all
leaves_left : (h : Held) (is_element : Bool) (n : ℕ) (ls : List Y.Leaf) → (is_element ≡ false → n ≡ 0)
    → (is_element ≡ true → n ≡ length (V.all_dimensions h)) → part_leaves is_element h ls ≡ map (leaf_left n) ls
leaves_left h false n ls e f = sym (ap (λ n. map (leaf_left n) ls) (e refl) ∙ same ls) where
  same : (ls : List Y.Leaf) → map (leaf_left 0) ls ≡ ls
  same [] = refl
  same (l ∷ ls) = ap (λ k. l ∷ k) (same ls)
leaves_left h true n ls e f = sym (ap (λ n. map (leaf_left n) ls) (f refl) ∙ same ls) where
  same : (ls : List Y.Leaf) → map (leaf_left (length (V.all_dimensions h))) ls ≡ map (leaf_of_element h) ls
  same [] = refl
  same (l ∷ ls) =
      ap (λ bs. record { type = l.type; bounds = bs; initial = l.initial }
      ∷ map (leaf_left (length (V.all_dimensions h))) ls) (sym (without_is l.bounds (V.all_dimensions h)))
      ∙ ap (λ k. leaf_of_element h l ∷ k) (same ls)

-- ---- the part itself

-- what is designated among members that stand from a place on
abbrev pub part_with : List Block → ℕ → (all from : List Held) → Held → Y.Locator → Bool → Y.Numbers → Designated
part_with blocks b all from h locator is_element subscripts =
    record {
      reference = Y.Referring (variable_meant blocks b h) locator (V.part_from all from) subscripts;
      leaves = part_leaves is_element h (leaves_of blocks b all (with_members from));
      dimensions = if is_element then 0 else length (V.all_dimensions h);
      has_members = nat_lt 1 (length (with_members from));
      is_whole = stands_alone h && not is_element;
    }

-- a name by itself has no subscripts, and one of an element as many as dimensions
pub record AreSubscripts (h : Held) (is_element : Bool) (subscripts : Y.Numbers) : Type 0 where
  pub none : is_element ≡ false → subscripts ≡ Y.NoNumber
  pub many : is_element ≡ true → given_in subscripts ≡ length (V.all_dimensions h)

-- what stands alone among the members of a structure is its first
alone_first : (root : Held) (ms : List Held) → IsStructure (root ∷ ms) → (place : ℕ) (h : Held)
    → slice_get (root ∷ ms) place ≡ Some h → stands_alone h ≡ true → place ≡ 0
alone_first root ms s zero h e a = refl
alone_first root ms s (suc place) h e a =
    absurd (cc (every_at (λ m. stands_alone m ≡ false) ms place h (held_not_alone (root.variable ∷ []) ms s.1) e, a))

-- all members are below the first
all_below : (root : Held) (chain : List Variable) (ms : List Held) → root.above ≡ [] → AreHeld chain ms
    → V.while_deeper root ms ≡ ms
all_below root chain [] a h = refl
all_below root chain (m ∷ ms) a h =
    let below : is_deeper root m ≡ true = lower (length root.above) (length m.above) (ap length a) h.1.0 in
    ap (λ b. if b then m ∷ V.while_deeper root ms else []) below
    ∙ ap (λ l. m ∷ l) (all_below root (m.above ++ m.variable ∷ []) ms a h.1.1) where
      lower : (n k : ℕ) → n ≡ 0 → (k == 0) ≡ false → nat_lt n k ≡ true
      lower n k e f = grind (arith, nat_tests)

pub one_member : (h : Held) (hs : List Held) → nat_lt 1 (length (h ∷ hs)) ≡ false → hs ≡ []
one_member h [] e = refl
one_member h (x ∷ xs) e = absurd (more (length xs) e) where
  more : (n : ℕ) → nat_lt 1 (suc (suc n)) ≡ false → ⊥
  more n e = grind (arith, nat_tests)

map_length : {X Z : Type 0} (f : X → Z) (xs : List X) → length (map f xs) ≡ length xs
map_length f [] = refl
map_length f (x ∷ xs) = ap suc (map_length f xs)

-- the only leaf that is an area is of a variable by itself
record AreaLeaf (all ls : List Held) : Type 0 where
  m : Held
  one : ls ≡ m ∷ []
  written : has 7 (own_attributes m) ≡ true
  only : IsOnlyArea all m

abbrev IsThere : List Held → Held → Type 0
IsThere all m = (i : ℕ) × (slice_get all i ≡ Some m)

area_leaf : (ps : List T.Name) (blocks : List Block) (b : ℕ) (all : List Held) → IsStructure all
    → IsFineVariable ps all → (ls : List Held) → Every (IsThere all) ls → (written : List WrittenExtent)
    → area_of_type (only_type (map (leaf_of blocks b written) ls)) ≡ true → AreaLeaf all ls
area_leaf ps blocks b all s f [] k written e = absurd (cc e)
area_leaf ps blocks b all s f (m ∷ []) k written e =
    let a = area_written blocks b written (own_attributes m) e in
    record { m = m; one = refl; written = a; only = only_area ps all s f k.0.0 m k.0.1 a }
area_leaf ps blocks b all s f (m ∷ n ∷ ls) k written e = absurd (cc e)

there_at : (all : List Held) (i : ℕ) (xs : List Held) → HasAt all i xs → Every (IsThere all) xs
there_at all i [] h = tt
there_at all i (x ∷ xs) h = ((i, h.0), there_at all (i + 1) xs h.1)

all_there : (all : List Held) → Every (IsThere all) all
all_there all = there_at all 0 all (has_end all [] all refl)

every_deeper : (P : Held → Type 0) (h : Held) (hs : List Held) → Every P hs → Every P (V.while_deeper h hs)
every_deeper P h [] k = tt
every_deeper P h (m ∷ ms) k = by (is_deeper h m) (every_deeper P h ms k.1) where
  by : (t : Bool) → Every P (V.while_deeper h ms) → Every P (if t then m ∷ V.while_deeper h ms else [])
  by true e = (k.0, e)
  by false e = tt

every_with : (P : Held → Type 0) (hs : List Held) → Every P hs → Every P (with_members hs)
every_with P [] h = tt
every_with P (m ∷ ms) h = (h.0, every_deeper P m ms h.1)

every_own : (P : Held → Type 0) (all : List Held) (place : ℕ) → Every P all
    → Every P (leaves_in (with_members (drop place all)))
every_own P all place h =
    every_leaf P (with_members (drop place all)) (every_with P (drop place all) (every_drop P place all h))

-- kinds are those of the leaves, of elements or not
part_types : (P : Y.LeafType → Type 0) (is_element : Bool) (h : Held) (ls : List Y.Leaf) → Every (λ l. P l.type) ls
    → Every (λ l. P l.type) (part_leaves is_element h ls)
part_types P false h ls k = k
part_types P true h [] k = tt
part_types P true h (l ∷ ls) k = (k.0, part_types P true h ls k.1)

part_only : (is_element : Bool) (h : Held) (ls : List Y.Leaf) → only_type (part_leaves is_element h ls) ≡ only_type ls
part_only false h ls = refl
part_only true h [] = refl
part_only true h (l ∷ []) = refl
part_only true h (l ∷ m ∷ ls) = refl

area_scalar : (p : Designated) → area_of_type (scalar_type p) ≡ true → area_of_type (only_type p.leaves) ≡ true
area_scalar p e = by (p.dimensions == 0) p.has_members e where
  by : (a b : Bool) → area_of_type (if a then (if b then None else only_type p.leaves) else None) ≡ true
      → area_of_type (only_type p.leaves) ≡ true
  by true false e = e
  by true true e = absurd (cc e)
  by false b e = absurd (cc e)

-- of one member that is there the other is the same
same_only : (all : List Held) (m h : Held) (place : ℕ) → all ≡ m ∷ [] → slice_get all place ≡ Some h
    → (m ≡ h) × (place ≡ 0)
same_only all m h place e f = by place (ap (λ l. slice_get l place) (sym e) ∙ f) where
  by : (place : ℕ) → slice_get (m ∷ []) place ≡ Some h → (m ≡ h) × (place ≡ 0)
  by zero f = (same_some m h f, refl)
  by (suc n) f = absurd (cc f)

both_whole : (a b : Bool) → (a && not b) ≡ true → (a ≡ true) × (b ≡ false)
both_whole true false e = (refl, refl)
both_whole true true e = absurd (cc e)
both_whole false b e = absurd (cc e)

-- a variable that is an area by itself is one as it is named
named_area : (blocks : List Block) (b : ℕ) (h : Held) (locator : Y.Locator) (subscripts : Y.Numbers)
    → attributes_clash (own_attributes h) ≡ false → has 7 (own_attributes h) ≡ true → V.all_dimensions h ≡ []
    → is_area (part_with blocks b (h ∷ []) (h ∷ []) h locator false subscripts) ≡ true
named_area blocks b h locator subscripts c a none =
    let written = written_extents (h ∷ []) in
    ap (λ ds. area_of_type (if length ds == 0 then Some (type_of blocks b written (own_attributes h)) else None)) none
    ∙ ap (λ t. area_of_type (Some t)) (area_type blocks b written (own_attributes h) c a)

member_is : (blocks : List Block) (b : ℕ) (h : Held) (m : IsMeant blocks b h)
    → IsMember (typed_variable blocks b (m.root ∷ m.members))
    (V.part_from (m.root ∷ m.members) (drop m.place (m.root ∷ m.members))) (length (V.all_dimensions h))
member_is blocks b h m =
    let all = m.root ∷ m.members in
    let part = part_of_member (leaf_of blocks b (written_extents all)) all m.place h m.there in
    record {
      place = m.place;
      dimensions_are =
          ap (λ ns. slice_get ns m.place) (structure_dimensions all m.structure)
          ∙ mapped_at (λ h. length (V.all_dimensions h)) all m.place h m.there;
      part_is = part_same all m.place;
      some = part.some;
      within = part.within;
    }

-- one leaf alone, where nothing is below
single_is : (blocks : List Block) (b : ℕ) (h : Held) (m : IsMeant blocks b h)
    → nat_lt 1 (length (with_members (drop m.place (m.root ∷ m.members)))) ≡ false
    → IsSingle (typed_variable blocks b (m.root ∷ m.members))
    (V.part_from (m.root ∷ m.members) (drop m.place (m.root ∷ m.members))) (length (V.all_dimensions h))
single_is blocks b h m e =
    let all = m.root ∷ m.members in
    let leaf = leaf_of blocks b (written_extents all) in
    let there = drop_there all m.place h m.there in
    let part = part_of_member leaf all m.place h m.there in
    let alone : with_members (drop m.place all) ≡ h ∷ [] =
    ap with_members there.1
    ∙ ap (λ l. h ∷ l) (one_member h (V.while_deeper h there.0)
    (ap (λ l. nat_lt 1 (length (with_members l))) (sym there.1) ∙ e)) in
    let own : leaves_in (with_members (drop m.place all)) ≡ h ∷ [] = ap leaves_in alone in
    let one : length (leaves_in (with_members (drop m.place all))) ≡ 1 = ap length own in
    let only = part.leaves ∙ ap (map leaf) own in
    record {
      leaf = leaf h;
      one = record {
        one = one;
        leaf_is =
            one_leaf (map leaf (leaves_in all)) (V.part_from all (drop m.place all)).first (leaf h)
            (ap (λ n. take n (drop (V.part_from all (drop m.place all)).first (map leaf (leaves_in all)))) (sym one)
            ∙ only);
      };
      only = only;
      many = map_length (bounds_of (extent_of (written_extents all))) (V.all_dimensions h);
    }

whole_part : (blocks : List Block) (b : ℕ) (h : Held) (m : IsMeant blocks b h) → stands_alone h ≡ true
    → V.part_from (m.root ∷ m.members) (drop m.place (m.root ∷ m.members))
    ≡ whole (typed_variable blocks b (m.root ∷ m.members))
whole_part blocks b h m a =
    let all = m.root ∷ m.members in
    let leaf = leaf_of blocks b (written_extents all) in
    let first = alone_first m.root m.members m.structure m.place h m.there a in
    let n = length (leaves_in all) in
    let none : n - n ≡ 0 = omega arith in
    let below : with_members all ≡ all =
    ap (λ l. m.root ∷ l)
    (all_below m.root (m.root.variable ∷ []) m.members m.structure.0 m.structure.1) in
    ap (λ p. V.part_from all (drop p all)) first
    ∙ (ap (λ k. record { first = k; count = length (leaves_in (with_members all)) }) none
    ∙ (ap (λ hs. record { first = 0; count = length (leaves_in hs) }) below
    ∙ ap (λ k. record { first = 0; count = k }) (sym (map_length leaf (leaves_in all)))))

-- what is so of how a name is written
pub record IsReferred (w : Where) (class : Y.StorageClass) (h : Held) (locator : Y.Locator) (is_element : Bool)
    (subscripts : Y.Numbers) : Type 0 where
  pub located : IsLocated class locator
  pub sound_locator : SoundLocator w locator
  pub sound_subscripts : SoundNumbers w subscripts
  pub are : AreSubscripts h is_element subscripts

subscripts_are : (h : Held) (is_element : Bool) (subscripts : Y.Numbers) → AreSubscripts h is_element subscripts
    → ((subscripts ≡ Y.NoNumber)
    × ((if is_element then 0 else length (V.all_dimensions h)) ≡ length (V.all_dimensions h)))
    ⊎ ((given_in subscripts ≡ length (V.all_dimensions h))
    × ((if is_element then 0 else length (V.all_dimensions h)) ≡ 0))
subscripts_are h false subscripts a = inl (a.none refl, refl)
subscripts_are h true subscripts a = inr (a.many refl, refl)

either_subscripts : (h : Held) (is_element : Bool) (subscripts : Y.Numbers) → AreSubscripts h is_element subscripts
    → (subscripts ≡ Y.NoNumber) ⊎ (given_in subscripts ≡ length (V.all_dimensions h))
either_subscripts h false subscripts a = inl (a.none refl)
either_subscripts h true subscripts a = inr (a.many refl)

placed_fit : (blocks : List Block) (w : Where) → Facts blocks w.program w.table → (b : ℕ) (h : Held)
    → DeclaresVariable blocks b h → (m : IsMeant blocks b h) → IsSeen blocks w.around b
    → IsVisible blocks w.around b → (locator : Y.Locator) (is_element : Bool) (subscripts : Y.Numbers)
    → IsReferred w (variable_meant blocks b h).class h locator is_element subscripts
    → IsPart w (part_with blocks b (m.root ∷ m.members) (drop m.place (m.root ∷ m.members)) h locator is_element
    subscripts)
placed_fit blocks w facts b h d m seen see locator is_element subscripts r =
    let all = m.root ∷ m.members in
    let from = drop m.place all in
    let v = variable_meant blocks b h in
    let typed = typed_variable blocks b all in
    let leaf = leaf_of blocks b (written_extents all) in
    let own = leaves_in (with_members from) in
    let part = part_of_member leaf all m.place h m.there in
    let p = part_with blocks b all from h locator is_element subscripts in
    let declared = is_declared blocks w facts b h d m seen in
    let fine = all_fine _ all m.fine in
    let own_fine = every_at (IsFineMember _) all m.place h fine m.there in
    let member = member_is blocks b h m in
    record {
      d = typed;
      dimensions = length (V.all_dimensions h);
      declared = declared;
      member = member;
      subscripted = subscripts_are h is_element subscripts r.are;
      leaves =
          leaves_left h is_element (given_in subscripts) (map leaf own) (λ e. ap given_in (r.are.none e))
          (λ e. r.are.many e)
          ∙ ap (map (leaf_left (given_in subscripts))) (sym part.leaves);
      types =
          part_types (IsSoundType w) is_element h (map leaf own)
          (every_mapped (λ l. IsSoundType w l.type) leaf own
          (every_map (IsFineMember _) (λ m. IsSoundType w (leaf m).type)
          (λ m f. kind_sound blocks w facts b (written_extents all) (own_attributes m) see (no_clash _ m f)) own
          (every_own (IsFineMember _) all m.place fine)));
      single = λ e. single_is blocks b h m e;
      is_all =
          λ e. (
            whole_part blocks b h m (both_whole (stands_alone h) is_element e).0,
            r.are.none (both_whole (stands_alone h) is_element e).1,
          );
      area = λ e. area_is (area_leaf _ blocks b all m.structure m.fine own
          (every_own (IsThere all) all m.place (all_there all)) (written_extents all)
          (ap area_of_type (sym (part_only is_element h (map leaf own))) ∙ area_scalar p e));
      no_area = λ e n k. no_area_is e n k;
      sound = (
        record {
          d = typed;
          declared = declared;
          dimensions = length (V.all_dimensions h);
          member = member;
          subscripted = either_subscripts h is_element subscripts r.are;
        },
        (r.located, (r.sound_locator, r.sound_subscripts)),
      );
    } where
      area_is : AreaLeaf (m.root ∷ m.members) (leaves_in (with_members (drop m.place (m.root ∷ m.members))))
          → IsArea w (variable_meant blocks b h)
      area_is a =
          let same = same_only (m.root ∷ m.members) a.m h m.place a.only.only m.there in
          area_meant blocks w facts b h d seen (subst (λ x. has 7 (own_attributes x) ≡ true) same.0 a.written)

      no_area_is : (stands_alone h && not is_element) ≡ true
          → is_area (part_with blocks b (m.root ∷ m.members) (drop m.place (m.root ∷ m.members)) h locator is_element
          subscripts) ≡ false
          → IsArea w (variable_meant blocks b h) → ⊥
      no_area_is e n k =
          let all = m.root ∷ m.members in
          let leaf = leaf_of blocks b (written_extents all) in
          let typed = typed_variable blocks b all in
          let declared = is_declared blocks w facts b h d m seen in
          let same = same_some typed k.d (sym declared.found ∙ k.declared.found) in
          let leaves : map leaf (leaves_in all) ≡ _ = ap (λ (d : Y.DeclaredVariable). d.leaves) same ∙ k.leaf in
          let a = area_leaf _ blocks b all m.structure m.fine (leaves_in all)
          (every_leaf (IsThere all) all (all_there all)) (written_extents all)
          (ap (λ ls. area_of_type (only_type ls)) leaves) in
          let one = same_only all a.m h m.place a.only.only m.there in
          let only : all ≡ h ∷ [] = a.only.only ∙ ap (λ x. x ∷ []) one.0 in
          let fine = every_at (IsFineMember _) all m.place h (all_fine _ all m.fine) m.there in
          let none : V.all_dimensions h ≡ [] = ap V.all_dimensions (sym one.0) ∙ a.only.none in
          let written = subst (λ x. has 7 (own_attributes x) ≡ true) one.0 a.written in
          let yes = named_area blocks b h locator subscripts (no_clash _ h fine) written none in
          let whole = (both_whole (stands_alone h) is_element e).1 in
          let there : is_area (part_with blocks b all (drop m.place all) h locator is_element subscripts) ≡ true =
          ap (λ i. is_area (part_with blocks b all (drop i all) h locator is_element subscripts)) one.1
          ∙ (ap (λ t. is_area (part_with blocks b all all h locator t subscripts)) whole
          ∙ (ap (λ hs. is_area (part_with blocks b hs hs h locator false subscripts)) only ∙ yes)) in
          absurd (cc (there, n))

-- what is designated, where the variable is found
pub part_is : (blocks : List Block) (b : ℕ) (h : Held) (m : IsMeant blocks b h) (locator : Y.Locator)
    (is_element : Bool) (subscripts : Y.Numbers)
    → part_designated blocks b h locator is_element subscripts
    ≡ part_with blocks b (m.root ∷ m.members) (drop m.place (m.root ∷ m.members)) h locator is_element subscripts
part_is blocks b h m locator is_element subscripts =
    let all = m.root ∷ m.members in
    let p = h.variable.declared.name.place in
    let members : members_of blocks b h ≡ all = ap (λ o. unwrap_or o []) m.found in
    ap (λ hs. part_with blocks b hs (from_place p hs) h locator is_element subscripts) members
    ∙ ap (λ fs. part_with blocks b all fs h locator is_element subscripts) m.from

-- all of a variable of level 1
pub whole_with : (blocks : List Block) (b : ℕ) (h : Held) (m : IsMeant blocks b h) → stands_alone h ≡ true
    → with_members (drop m.place (m.root ∷ m.members)) ≡ m.root ∷ m.members
whole_with blocks b h m a =
    let all = m.root ∷ m.members in
    ap (λ p. with_members (drop p all)) (alone_first m.root m.members m.structure m.place h m.there a)
    ∙ ap (λ l. m.root ∷ l)
    (all_below m.root (m.root.variable ∷ []) m.members m.structure.0 m.structure.1)

-- a variable as it is named, with its subscripts
pub part_fit : (blocks : List Block) (w : Where) → Facts blocks w.program w.table → (b : ℕ) (h : Held)
    → DeclaresVariable blocks b h → IsSeen blocks w.around b → IsVisible blocks w.around b → (locator : Y.Locator)
    (is_element : Bool) (subscripts : Y.Numbers)
    → IsReferred w (variable_meant blocks b h).class h locator is_element subscripts
    → IsPart w (part_designated blocks b h locator is_element subscripts)
part_fit blocks w facts b h d seen see locator is_element subscripts r =
    let m = is_meant blocks w.program w.table facts b h d in
    subst (IsPart w) (sym (part_is blocks b h m locator is_element subscripts))
    (placed_fit blocks w facts b h d m seen see locator is_element subscripts r)

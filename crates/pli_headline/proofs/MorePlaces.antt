-- A block with one more variable behind its frame and all its others: where it stands and what stands there, and how it and the others are reached.
use Rattle.std.proofs.Common.{◌≡◌, ℕ, ◌+◌, ◌*◌, ◌%◌, ◌^◌, ◌<◌, ◌≤◌, List, [], ◌∷◌, ◌++◌, length, Some, Bool, true, false, refl, sym, ap, ◌∙◌, subst, arith}
use Rattle.std.specs.Prelude.{pos, cond, nat_lt, slice_get, ◌==◌}
use Rattle.std.proofs.lemmas.Bool.{eq-eqb}
use Rattle.std.proofs.lemmas.Bool.Decides.{nat_tests}
use Rattle.pli_language.specs.Tree as T
use Rattle.pli_typing.specs.TypedTree as Y
use Rattle.pli_meaning.specs.DeclaredShapes.{variables_of_block}
use Rattle.pli_coding.specs.Environments.{Environment}
use Rattle.pli_coding.specs.Frames.{last_place, automatic_place}
use Rattle.pli_headline.specs.ProvedSoFar.{Names, Spot, Kind, Types, alone, IsHeld, array_variable}
use Rattle.run_steps.specs.Engine.{most_code}
use Rattle.run_steps.proofs.Numbers.{above_sum, above_small}
use Rattle.pli_headline.proofs.Scalars.{Values}
use Rattle.pli_headline.proofs.VariablePlaces.{frame_size, frame_wide}
use Rattle.pli_headline.proofs.Holdings.{Content, There, size_in, content_fits, content_for}
use Rattle.run_steps.specs.Bodies.{Ground, PlaceFrom}
use Rattle.run_steps.specs.Reaching.{Reaches}
use Rattle.pli_headline.proofs.Variables.{IsDeclared, data_place, level_of}
use Rattle.pli_headline.proofs.DeclaredNames.{by_last, chosen_before, chosen_here}
use Rattle.pli_headline.proofs.Statements.{Block}
use Rattle.pli_headline.proofs.MoreNames.{spot_of, more_names}

-- ---- places

pub not_last : (count j : ℕ) → j < count → (j == count) ≡ false
not_last count j below = grind (arith, nat_tests)

pub last_not : (count j : ℕ) → j < count → (count == j) ≡ false
last_not count j below = grind (arith, nat_tests)

pub other_kept : {A : Type 0} (q : Bool) (x y : A) → q ≡ false → y ≡ cond q x y
other_kept true x y e = absurd (cc e)
other_kept false x y e = refl

pub here_kept : {A : Type 0} (q : Bool) (x y : A) → q ≡ true → x ≡ cond q x y
here_kept true x y e = refl
here_kept false x y e = absurd (cc e)

-- ---- the variable

-- a variable of a block of its own level, behind so many others
pub record More {e : Environment} {block : Names} {types : Types} (ib : Block e block types) (index : ℕ) (k : Kind) : Type 0 where
  pub held : IsHeld k.type k.bounds
  pub initial : List T.InitialItem
  pub declared : slice_get (variables_of_block e.program e.block) index ≡ Some (array_variable k.type k.bounds initial)
  pub deep : 0 < e.level
  pub place : ib.stack.frame + automatic_place e.parts e.program e.block e.level index ≡ ib.stack.free
  pub room : ib.stack.free + frame_size k + 4 ≤ 14 * 2 ^ 20
  pub near : automatic_place e.parts e.program e.block e.level index + frame_size k ≤ last_place

abbrev pub more_bases : {e : Environment} {block : Names} {types : Types} → Block e block types → ℕ → ℕ
more_bases {types = types} ib j = cond (nat_lt j (length types)) (ib.bases j) ib.stack.frame

-- what stands there
abbrev pub own_content : Kind → Values → (count : ℕ) → Content
own_content k n count = content_for k (n.numbers count) (n.texts count) (n.arrays count) (n.text_arrays count)

abbrev pub more_ground : {e : Environment} {block : Names} {types : Types} (ib : Block e block types) (k : Kind) → Values → Ground
more_ground {types = types} ib k n =
    record {
      frame = (ib.ground n).frame;
      free = ib.stack.free + frame_size k;
      words = (ib.ground n).words;
      memory = λ t b m. (ib.ground n).memory t b m × There m (ib.stack.free + 16) (own_content k n (length types));
      whole = (ib.ground n).whole;
      above_code = (ib.ground n).above_code;
      inside = (ib.ground n).inside;
    }

-- ---- where it stands, and the others

pub around_spot : (e : Environment) (block : Names) (types : Types) (index j : ℕ) → j < length types → (more_names e block types index).at j ≡ block.at j
around_spot e block types index j below = chosen_before (length types) j (block.at j) (spot_of e index) below

pub own_spot : (e : Environment) (block : Names) (types : Types) (index : ℕ) → (more_names e block types index).at (length types) ≡ spot_of e index
own_spot e block types index = chosen_here (length types) (block.at (length types)) (spot_of e index)

pub around_level : (e : Environment) (block : Names) (types : Types) (index j : ℕ) → j < length types → level_of (more_names e block types index) j ≡ level_of block j
around_level e block types index j below = ap (λ (u : Spot). u.level) (around_spot e block types index j below)

pub own_level : (e : Environment) (block : Names) (types : Types) (index : ℕ) → level_of (more_names e block types index) (length types) ≡ e.level
own_level e block types index = ap (λ (u : Spot). u.level) (own_spot e block types index)

pub around_data : (e : Environment) (block : Names) (types : Types) (index j : ℕ) → j < length types → data_place e (more_names e block types index) j ≡ data_place e block j
around_data e block types index j below =
    ap (λ (u : Spot). automatic_place e.parts e.program u.number u.level u.index + 16 + 0) (around_spot e block types index j below)

pub own_data : (e : Environment) (block : Names) (types : Types) (index : ℕ) → data_place e (more_names e block types index) (length types) ≡ automatic_place e.parts e.program e.block e.level index + 16 + 0
own_data e block types index =
    ap (λ (u : Spot). automatic_place e.parts e.program u.number u.level u.index + 16 + 0) (own_spot e block types index)

pub around_base : {e : Environment} {block : Names} {types : Types} (ib : Block e block types) (j : ℕ) → j < length types → more_bases ib j ≡ ib.bases j
around_base {types = types} ib j below = chosen_before (length types) j (ib.bases j) ib.stack.frame below

pub own_base : {e : Environment} {block : Names} {types : Types} (ib : Block e block types) → more_bases ib (length types) ≡ ib.stack.frame
own_base {types = types} ib = chosen_here (length types) (ib.bases (length types)) ib.stack.frame

pub around_address : {e : Environment} {block : Names} {types : Types} (ib : Block e block types) (index j : ℕ) → j < length types → more_bases ib j + data_place e (more_names e block types index) j ≡ ib.bases j + data_place e block j
around_address {e} {block} {types} ib index j below =
    let a = around_base ib j below in let d = around_data e block types index j below in omega (arith, a, d)

pub own_address : {e : Environment} {block : Names} {types : Types} (ib : Block e block types) {index : ℕ} {k : Kind} (o : More ib index k) → more_bases ib (length types) + data_place e (more_names e block types index) (length types) ≡ ib.stack.free + 16
own_address {e} {block} {types} ib {index} o =
    let a = own_base ib in let d = own_data e block types index in let p = o.place in omega (arith, a, d, p)

pub own_size : (k : Kind) (n : Values) (count : ℕ) → IsHeld k.type k.bounds → 16 + size_in (own_content k n count) ≤ frame_size k
own_size k n count held =
    content_fits k (n.numbers count) (n.texts count) (n.arrays count) (n.text_arrays count) held

-- a block's frame lies above the code
pub above_code : {e : Environment} {block : Names} {types : Types} (ib : Block e block types) → 4 * most_code ≤ ib.stack.frame
above_code ib =
    let n : Values = record { numbers = λ j. pos 0; texts = λ j. []; arrays = λ j p. pos 0; text_arrays = λ j p. [] } in
    let same = ib.stack.frame_is n in
    let above = (ib.ground n).above_code in
    omega (arith, same, above)

-- ---- it is declared

pub own_declared : {e : Environment} {block : Names} {types : Types} (ib : Block e block types) {index : ℕ} {k : Kind} (o : More ib index k) → slice_get (variables_of_block e.program ((more_names e block types index).at (length types)).number) ((more_names e block types index).at (length types)).index ≡ Some (array_variable k.type k.bounds o.initial)
own_declared {e} {block} {types} ib {index} o =
    ap (λ (s : Spot). slice_get (variables_of_block e.program s.number) s.index) (own_spot e block types index) ∙ o.declared

pub more_declared : {e : Environment} {block : Names} {types : Types} (ib : Block e block types) {index : ℕ} {k : Kind} (o : More ib index k) (j : ℕ) (type : Y.LeafType) → slice_get (types ++ (k ∷ [])) j ≡ Some (alone type) → IsDeclared e (more_names e block types index) j type
more_declared {e} {block} {types} ib {index} {k} o j type at =
    by_last types k (λ i kind. (u : Y.LeafType) → kind ≡ alone u → IsDeclared e (more_names e block types index) i u)
    (λ i kind below at' u e'.
    let d = ib.declared i (at' ∙ ap (λ q. Some q) e') in
    (d.0, ap (λ (s : Spot). slice_get (variables_of_block e.program s.number) s.index) (around_spot e block types index i below) ∙ d.1))
    (λ u e'. (o.initial, own_declared ib o ∙ ap (λ (q : Kind). Some (array_variable q.type q.bounds o.initial)) e'))
    j (alone type) at type refl

-- ---- it is reached

pub still_reached : {e : Environment} {block : Names} {types : Types} (ib : Block e block types) (k : Kind) (n : Values) (q : Bool) (level base : ℕ) → Reaches q level (ib.ground n) base → Reaches q level (more_ground ib k n) base
still_reached ib k n true level base r = r
still_reached ib k n false level base r = (r.0, λ t b m o. r.1 t b m o.0)

pub more_reached : {e : Environment} {block : Names} {types : Types} (ib : Block e block types) (index : ℕ) (k : Kind) (n : Values) (j : ℕ) (kind : Kind) → slice_get (types ++ (k ∷ [])) j ≡ Some kind → Reaches (level_of (more_names e block types index) j == e.level) (level_of (more_names e block types index) j) (more_ground ib k n) (more_bases ib j)
more_reached {e} {block} {types} ib index k n j kind at =
    let names = more_names e block types index in
    let g = more_ground ib k n in
    by_last types k (λ i kind'. Reaches (level_of names i == e.level) (level_of names i) g (more_bases ib i))
    (λ i kind' below at'.
    let l = level_of block i in
    subst (λ u. Reaches (u == e.level) u g (more_bases ib i)) (sym (around_level e block types index i below))
    (subst (λ w. Reaches (l == e.level) l g w) (sym (around_base ib i below)) (still_reached ib k n (l == e.level) l (ib.bases i) (ib.reaches n i at'))))
    (subst (λ u. Reaches (u == e.level) u g (more_bases ib (length types))) (sym (own_level e block types index))
    (subst (λ q. Reaches q e.level g (more_bases ib (length types))) (sym (eq-eqb e.level e.level refl)) (ib.stack.frame_is n ∙ sym (own_base ib))))
    j kind at

pub place_behind : (frame place free : ℕ) → frame + place ≡ free → free % 4 ≡ 0 → 7 * 2 ^ 20 ≤ free → free + 36 ≤ 14 * 2 ^ 20 → PlaceFrom frame (pos (place + 16 + 0)) (frame + (place + 16 + 0))
place_behind frame place free e whole high room =
    record {
      small' = above_small (place + 16 + 0) (omega (arith, e, room));
      sums = λ b. above_sum b.at frame (place + 16 + 0) b.valid.1 (omega (arith, e, room));
      aligned = omega (arith, e, whole);
      inside = omega (arith, e, room);
      above_code = omega (arith, e, high);
    }

pub more_places : {e : Environment} {block : Names} {types : Types} (ib : Block e block types) {index : ℕ} {k : Kind} (o : More ib index k) (j : ℕ) (type : Y.LeafType) → slice_get (types ++ (k ∷ [])) j ≡ Some (alone type) → PlaceFrom (more_bases ib j) (pos (data_place e (more_names e block types index) j)) (more_bases ib j + data_place e (more_names e block types index) j)
more_places {e} {block} {types} ib {index} {k} o j type at =
    let names = more_names e block types index in
    by_last types k (λ i kind. (u : Y.LeafType) → kind ≡ alone u → PlaceFrom (more_bases ib i) (pos (data_place e names i)) (more_bases ib i + data_place e names i))
    (λ i kind below at' u e'.
    subst (λ w. PlaceFrom w (pos (data_place e names i)) (w + data_place e names i)) (sym (around_base ib i below))
    (subst (λ x. PlaceFrom (ib.bases i) (pos x) (ib.bases i + x)) (sym (around_data e block types index i below)) (ib.places i (at' ∙ ap (λ q. Some q) e'))))
    (λ u e'.
    subst (λ w. PlaceFrom w (pos (data_place e names (length types))) (w + data_place e names (length types))) (sym (own_base ib))
    (subst (λ x. PlaceFrom ib.stack.frame (pos x) (ib.stack.frame + x)) (sym (own_data e block types index))
    (place_behind ib.stack.frame (automatic_place e.parts e.program e.block e.level index) ib.stack.free o.place ib.stack.aligned ib.stack.high (let room = o.room in let wide = frame_wide k in omega (arith, room, wide)))))
    j (alone type) at type refl

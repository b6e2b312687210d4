-- The frame of a block inside another: what stands in memory while it runs, above what stands for the block around it.
use Rattle.std.proofs.Common.{◌≡◌, ℕ, suc, ◌+◌, ◌-◌, ◌*◌, ◌%◌, ◌^◌, ◌<◌, ◌≤◌, inl, inr, List, [], ◌∷◌, length, Some, Bool, true, false, refl, sym, ap, ◌∙◌, subst, arith}
use Rattle.std.specs.Prelude.{ℤ, cond, slice_get, ◌==◌}
use Rattle.std.proofs.lemmas.Bool.{eq-eqb, eqb-true}
use Rattle.std.proofs.lemmas.Bool.Decides.{nat_tests}
use Rattle.rv_meaning.specs.Words.{word}
use Rattle.rv_meaning.specs.Memory.{load, store}
use Rattle.rv_meaning.specs.Machine.{memory_size, store_width}
use Rattle.rv_meaning.proofs.MemoryLaws.{load-store_same, load-store_other}
use Rattle.pli_typing.specs.TypedTree as Y
use Rattle.pli_coding.specs.Frames.{display, fixed_size, temporary_bytes}
use Rattle.pli_coding.specs.Environments.{Environment, none_taken, in_frame}
use Rattle.pli_headline.specs.ProvedSoFar.{Names, Types, OuterBlock, alone, Kind}
use Rattle.run_steps.specs.Engine.{Base}
use Rattle.run_steps.proofs.Numbers.{above_sum, above_small}
use Rattle.pli_headline.proofs.Scalars.{Fits, store_kind, Values}
use Rattle.run_steps.specs.Bodies.{Ground, PlaceOf}
use Rattle.pli_headline.proofs.Activations.{rest_more}
use Rattle.run_steps.specs.Reaching.{Reaches}
use Rattle.run_steps.specs.Temporaries.{Temporaries}
use Rattle.pli_headline.proofs.Variables.{data_place, level_of}
use Rattle.pli_headline.proofs.States.{with_number_at, with_text_at}
use Rattle.pli_headline.proofs.MainGround.{apart_words, width_few}
use Rattle.pli_meaning.specs.BasicValues.{BasicText}
use Rattle.pli_serving.specs.Bytes.{with_bytes}
use Rattle.pli_serving.specs.Stored.{kept_bytes}
use Rattle.pli_headline.proofs.WrittenBytes.{load-with_other}
use Rattle.pli_headline.proofs.TextPlaces.{text_kind_of}
use Rattle.pli_headline.proofs.TextsKept.{kept_length, text_kept_as}
use Rattle.pli_headline.proofs.Entered.{atop, begin_way}
use Rattle.pli_headline.proofs.OuterBlocks.{risen_over}
use Rattle.pli_headline.proofs.Statements.{Block, IsFilled, Enclosing, Enclosures, AllSeen, restricts_self}
use Rattle.pli_headline.proofs.TextScopes.{IsTextAt}
use Rattle.pli_typing.specs.Signatures.{Bounds, element_count}
use Rattle.pli_headline.proofs.ArrayScopes.{with_element_of, ArrayOn}
use Rattle.pli_headline.proofs.TextArrayScopes.{TextArrayOn, with_text_of}
use Rattle.pli_headline.proofs.TextArraysStay.{text_stride, text_within}

-- the frames of the levels around it, of which the last is that of the block around
abbrev pub inner_levels : {e : Environment} {block : Names} {types : Types} → Block e block types → ℕ → ℕ
inner_levels {e} bl j = cond (j == e.level) bl.stack.frame (bl.levels j)

pub outermost_inner : {e : Environment} {block : Names} {types : Types} (bl : Block e block types) (q : Bool) → (0 == e.level) ≡ q → cond q bl.stack.frame (bl.levels 0) ≡ bl.base
outermost_inner bl true known = bl.alone known
outermost_inner bl false known = bl.outermost_level known

pub inner_level_room : {e : Environment} {block : Names} {types : Types} (bl : Block e block types) (q : Bool) (j : ℕ) → (j == e.level) ≡ q → bl.stack.free ≤ 14 * 2 ^ 20 → j < suc e.level → cond q bl.stack.frame (bl.levels j) < memory_size
inner_level_room bl true j known room below = let over = bl.stack.above in omega (arith, over, room)
inner_level_room {e} bl false j known room below =
    bl.level_room j (grind (arith, nat_tests))

-- where it lies, and its words for temporaries
pub record Inner {e : Environment} {block : Names} {types : Types} (bl : Block e block types) : Type 0 where
  pub words : ℕ
  pub at : ℕ
  pub place : at ≡ bl.stack.free + temporary_bytes words
  pub room : at + fixed_size (suc e.level) 0 + 4 ≤ 14 * 2 ^ 20

pub record Inside (around : Base → List ℕ → Type 0) (outer level : ℕ) (levels : ℕ → ℕ) (at words : ℕ) (t : ℕ → ℕ) (b : Base) (m : List ℕ) : Type 0 where
  pub kept : around b m
  pub below : load 4 m (at + 4) ≡ b.at + outer
  pub own : load 4 m (at + 36) ≡ at
  pub shown : (j : ℕ) → j < level → load 4 m (at + (144 + 4 * j)) ≡ b.at + levels j
  pub temporaries : (j : ℕ) → j < words → t j < 2 ^ 32 → load 4 m (at - 4 * suc j) ≡ t j

pub inner_whole : (at free words : ℕ) → at ≡ free + temporary_bytes words → free % 4 ≡ 0 → at % 4 ≡ 0
inner_whole at free words e h = omega (arith, e, h)

pub inner_above : (at free words : ℕ) → at ≡ free + temporary_bytes words → free + 4 * words ≤ at
inner_above at free words e = omega (arith, e)

-- on the ground of the block around, where these temporaries wait
abbrev pub inner_ground : {e : Environment} {block : Names} {types : Types} (bl : Block e block types) → Inner bl → (t0 : ℕ → ℕ) → Values → Ground
inner_ground {e} bl inner t0 n =
    record {
      frame = inner.at;
      free = inner.at + fixed_size (suc e.level) 0;
      words = inner.words;
      memory = Inside ((bl.ground n).memory t0) bl.stack.frame (suc e.level) (inner_levels bl) inner.at inner.words;
      whole = inner_whole inner.at bl.stack.free inner.words inner.place bl.stack.aligned;
      above_code = let a = inner_above inner.at bl.stack.free inner.words inner.place in let h = bl.stack.high in omega (arith, a, h);
      inside = let r = inner.room in omega (arith, r);
    }

-- ---- its temporaries

pub inner_put : (q : Bool) (m : List ℕ) (t : ℕ → ℕ) (at i j x words : ℕ) → (i == j) ≡ q → length m ≡ memory_size → x < 2 ^ 32 → i < words → j < words → 4 * words ≤ at → at ≤ memory_size → cond q x (t i) < 2 ^ 32 → (t i < 2 ^ 32 → load 4 m (at - 4 * suc i) ≡ t i) → load 4 (store 4 m (at - 4 * suc j) x) (at - 4 * suc i) ≡ cond q x (t i)
inner_put true m t at i j x words e len fits h k r s known o =
    let same : i ≡ j = eqb-true i j e in
    ap (λ u. load 4 (store 4 m (at - 4 * suc j) x) (at - 4 * suc u)) same ∙ load-store_same 4 m (at - 4 * suc j) x fits (omega (arith, len, k, r, s))
inner_put false m t at i j x words e len fits h k r s known o =
    load-store_other 4 4 m (at - 4 * suc j) x (at - 4 * suc i) (apart_words at i j words e h k r) ∙ o known

pub inner_temporaries : {e : Environment} {block : Names} {types : Types} (bl : Block e block types) (inner : Inner bl) (t0 : ℕ → ℕ) (n : Values) → Temporaries (inner_ground bl inner t0 n)
inner_temporaries bl inner t0 n =
    let above = inner_above inner.at bl.stack.free inner.words inner.place in
    let room = inner.room in
    record {
      kept = λ t b m j x below len fits o.
          let p = inner.at - 4 * suc j in
          record {
            kept = bl.stack.keeps n t0 b m 4 p x (omega (arith, above, below)) o.kept;
            below = load-store_other 4 4 m p x (inner.at + 4) (inr (omega (arith, above, below))) ∙ o.below;
            own = load-store_other 4 4 m p x (inner.at + 36) (inr (omega (arith, above, below))) ∙ o.own;
            shown = λ i h. load-store_other 4 4 m p x (inner.at + (144 + 4 * i)) (inr (omega (arith, above, below))) ∙ o.shown i h;
            temporaries = λ i h known. inner_put (i == j) m t inner.at i j x inner.words refl len fits h below (omega (arith, above)) (omega (arith, room)) known (o.temporaries i h);
          };
      found = λ t b m j below known o. o.temporaries j below known;
    }

-- ---- variables of the block around

pub inner_writes : {e : Environment} {block : Names} {types : Types} (bl : Block e block types) (inner : Inner bl) (t0 : ℕ → ℕ) (n : Values) (j : ℕ) (z : ℤ) {type : Y.LeafType} → slice_get types j ≡ Some (alone type) → Fits type (n.numbers j) → Fits type z → (t : ℕ → ℕ) (b : Base) (m : List ℕ) → length m ≡ memory_size → (inner_ground bl inner t0 n).memory t b m → (inner_ground bl inner t0 (with_number_at n j z)).memory t b (store (store_width (store_kind type)) m (bl.bases j + data_place e block j) (word z))
inner_writes {e} {block} bl inner t0 n j z {type} below old fits t b m len o =
    let p = bl.bases j + data_place e block j in
    let w = store_width (store_kind type) in
    let few = width_few (store_kind type) in
    let above = inner_above inner.at bl.stack.free inner.words inner.place in
    let under = bl.stack.under j below in
    record {
      kept = bl.writes n j z below old fits t0 b m len o.kept;
      below = load-store_other w 4 m p (word z) (inner.at + 4) (inr (omega (arith, above, under, few))) ∙ o.below;
      own = load-store_other w 4 m p (word z) (inner.at + 36) (inr (omega (arith, above, under, few))) ∙ o.own;
      shown = λ i h. load-store_other w 4 m p (word z) (inner.at + (144 + 4 * i)) (inr (omega (arith, above, under, few))) ∙ o.shown i h;
      temporaries = λ i h known. load-store_other w 4 m p (word z) (inner.at - 4 * suc i) (inr (omega (arith, above, under, h, few))) ∙ o.temporaries i h known;
    }

-- a text is stored
pub inner_text_writes : {e : Environment} {block : Names} {types : Types} (bl : Block e block types) (inner : Inner bl) (t0 : ℕ → ℕ) (n : Values) (j : ℕ) (varying : Bool) (most : ℕ) (text : List ℕ) → IsTextAt types j varying most → (t : ℕ → ℕ) (b : Base) (m : List ℕ) → length m ≡ memory_size → (inner_ground bl inner t0 n).memory t b m → (inner_ground bl inner t0 (with_text_at n j (text_kept_as varying most text))).memory t b (with_bytes (kept_bytes (text_kind_of varying most) (BasicText text)) (bl.bases j + data_place e block j) m)
inner_text_writes {e} {block} bl inner t0 n j varying most text at t b m len o =
    let p = bl.bases j + data_place e block j in
    let bytes = kept_bytes (text_kind_of varying most) (BasicText text) in
    let long = kept_length varying most text in
    let above = inner_above inner.at bl.stack.free inner.words inner.place in
    let under = bl.texts.under j varying most at in
    let inside = bl.texts.room.inside j varying most at in
    let room : p + length bytes ≤ length m = omega (arith, inside, long, len) in
    record {
      kept = bl.texts.writes n j varying most text at t0 b m len o.kept;
      below = load-with_other 4 bytes m p (inner.at + 4) room (inr (omega (arith, above, under, long))) ∙ o.below;
      own = load-with_other 4 bytes m p (inner.at + 36) room (inr (omega (arith, above, under, long))) ∙ o.own;
      shown = λ i h. load-with_other 4 bytes m p (inner.at + (144 + 4 * i)) room (inr (omega (arith, above, under, long))) ∙ o.shown i h;
      temporaries = λ i h known. load-with_other 4 bytes m p (inner.at - 4 * suc i) room (inr (omega (arith, above, under, long, h))) ∙ o.temporaries i h known;
    }

-- an element is stored
inner_element_stored : {e : Environment} {block : Names} {types : Types} (bl : Block e block types) (inner : Inner bl) (t0 : ℕ → ℕ) {j : ℕ} {type : Y.LeafType} {bs : List Bounds} (on : ArrayOn e block (bl.bases j) bl.stack.free bl.ground j type bs) → (n : Values) (p : ℕ) (z : ℤ) → p < element_count bs → Fits type (n.arrays j p) → Fits type z → (t : ℕ → ℕ) (b : Base) (m : List ℕ) → length m ≡ memory_size → (inner_ground bl inner t0 n).memory t b m → (inner_ground bl inner t0 (with_element_of n j p z)).memory t b (store (store_width (store_kind type)) m (bl.bases j + 4 * p + data_place e block j) (word z))
inner_element_stored {e} {block} bl inner t0 {j} {type} {bs} on n p z inside old fits t b m len o =
    let q = bl.bases j + 4 * p + data_place e block j in
    let w = store_width (store_kind type) in
    let few = width_few (store_kind type) in
    let under = on.under in
    let above = inner_above inner.at bl.stack.free inner.words inner.place in
    record {
      kept = on.writes n p z inside old fits t0 b m len o.kept;
      below = load-store_other w 4 m q (word z) (inner.at + 4) (inr (omega (arith, above, under, few, inside))) ∙ o.below;
      own = load-store_other w 4 m q (word z) (inner.at + 36) (inr (omega (arith, above, under, few, inside))) ∙ o.own;
      shown = λ i h. load-store_other w 4 m q (word z) (inner.at + (144 + 4 * i)) (inr (omega (arith, above, under, few, inside))) ∙ o.shown i h;
      temporaries = λ i h known. load-store_other w 4 m q (word z) (inner.at - 4 * suc i) (inr (omega (arith, above, under, h, few, inside))) ∙ o.temporaries i h known;
    }

-- an array of the block around
pub inner_array : {e : Environment} {block : Names} {types : Types} (bl : Block e block types) (inner : Inner bl) (t0 : ℕ → ℕ) (number level free : ℕ) → inner.at + 144 ≤ free → {j : ℕ} {type : Y.LeafType} {bs : List Bounds} (on : ArrayOn e block (bl.bases j) bl.stack.free bl.ground j type bs) → ArrayOn (in_frame number level e) block (bl.bases j) free (inner_ground bl inner t0) j type bs
inner_array bl inner t0 number level free over on =
    let above = inner_above inner.at bl.stack.free inner.words inner.place in
    let under = on.under in
    record {
      declared = on.declared;
      bounds = on.bounds;
      few = on.few;
      within = on.within;
      under = omega (arith, above, under, over);
      places = on.places;
      reads = λ n p inside fits t b m o. on.reads n p inside fits t0 b m o.kept;
      writes = λ n p z inside old fits t b m len o. inner_element_stored bl inner t0 on n p z inside old fits t b m len o;
    }

-- a text is stored in an element
inner_text_element_stored : {e : Environment} {block : Names} {types : Types} (bl : Block e block types) (inner : Inner bl) (t0 : ℕ → ℕ) {j : ℕ} {varying : Bool} {most : ℕ} {bs : List Bounds} (on : TextArrayOn e block (bl.bases j) bl.stack.free bl.ground j varying most bs) → (n : Values) (p : ℕ) (text : List ℕ) → p < element_count bs → (t : ℕ → ℕ) (b : Base) (m : List ℕ) → length m ≡ memory_size → (inner_ground bl inner t0 n).memory t b m → (inner_ground bl inner t0 (with_text_of n j p (text_kept_as varying most text))).memory t b (with_bytes (kept_bytes (text_kind_of varying most) (BasicText text)) (bl.bases j + p * text_stride varying most + data_place e block j) m)
inner_text_element_stored {e} {block} bl inner t0 {j} {varying} {most} {bs} on n p text inside t b m len o =
    let q = bl.bases j + p * text_stride varying most + data_place e block j in
    let bytes = kept_bytes (text_kind_of varying most) (BasicText text) in
    let long = kept_length varying most text in
    let row = text_within varying most p (element_count bs) inside in
    let under = on.under in
    let within = on.within in
    let above = inner_above inner.at bl.stack.free inner.words inner.place in
    let room : q + length bytes ≤ length m = omega (arith, within, row, long, len) in
    let ends : q + length bytes ≤ bl.stack.free = omega (arith, under, row, long) in
    record {
      kept = on.writes n p text inside t0 b m len o.kept;
      below = load-with_other 4 bytes m q (inner.at + 4) room (inr (omega (arith, above, ends))) ∙ o.below;
      own = load-with_other 4 bytes m q (inner.at + 36) room (inr (omega (arith, above, ends))) ∙ o.own;
      shown = λ i h. load-with_other 4 bytes m q (inner.at + (144 + 4 * i)) room (inr (omega (arith, above, ends))) ∙ o.shown i h;
      temporaries = λ i h known. load-with_other 4 bytes m q (inner.at - 4 * suc i) room (inr (omega (arith, above, ends, h))) ∙ o.temporaries i h known;
    }

-- an array of texts of the block around
pub inner_text_array : {e : Environment} {block : Names} {types : Types} (bl : Block e block types) (inner : Inner bl) (t0 : ℕ → ℕ) (number level free : ℕ) → inner.at + 144 ≤ free → {j : ℕ} {varying : Bool} {most : ℕ} {bs : List Bounds} (on : TextArrayOn e block (bl.bases j) bl.stack.free bl.ground j varying most bs) → TextArrayOn (in_frame number level e) block (bl.bases j) free (inner_ground bl inner t0) j varying most bs
inner_text_array bl inner t0 number level free over on =
    let above = inner_above inner.at bl.stack.free inner.words inner.place in
    let under = on.under in
    record {
      declared = on.declared;
      bounds = on.bounds;
      few = on.few;
      some = on.some;
      short = on.short;
      high = on.high;
      within = on.within;
      under = omega (arith, above, under, over);
      reads = λ n p inside t b m o. on.reads n p inside t0 b m o.kept;
      writes = λ n p text inside t b m len o. inner_text_element_stored bl inner t0 on n p text inside t b m len o;
    }

pub inner_place : (g : Ground) (level : ℕ) → g.frame + (148 + 4 * level) ≤ 14 * 2 ^ 20 → 7 * 2 ^ 20 ≤ g.frame → PlaceOf g (display level) (g.frame + (144 + 4 * level))
inner_place g level room high =
    let whole = g.whole in
    record {
      small' = above_small (144 + 4 * level) (omega (arith, room));
      sums = λ b. above_sum b.at g.frame (144 + 4 * level) b.valid.1 (omega (arith, room));
      aligned = omega (arith, whole);
      inside = omega (arith, room);
      above_code = omega (arith, high);
    }

pub other_level : (level outer : ℕ) → level ≡ suc outer → (0 == level) ≡ false
other_level level outer e = grind (arith, nat_tests)

-- ---- blocks around it

pub level_first : (level : ℕ) → level ≡ 0 → (0 == level) ≡ true
level_first level same = grind (arith, nat_tests)

pub lower_apart : (level outer : ℕ) → level < outer → (level == outer) ≡ false
lower_apart level outer below = grind (arith, nat_tests)

pub other_shown : (q : Bool) (x y frame : ℕ) → q ≡ false → y ≡ frame → cond q x y ≡ frame
other_shown true x y frame other e = absurd (cc other)
other_shown false x y frame other e = e

-- the block in which it stands
abbrev pub inner_own : {e : Environment} {block : Names} {types : Types} (bl : Block e block types) (inner : Inner bl) (t0 : ℕ → ℕ) (number level : ℕ) → level ≡ suc e.level → IsFilled bl → Enclosing (in_frame number level e) (record { level = e.level; number = e.block; labels = bl.labels }) (inner_ground bl inner t0) (inner_levels bl) (inner.at ∷ bl.frames.list) (level ∷ e.level ∷ bl.depths)
inner_own {e} {block} {types} bl inner t0 number level next filled =
    let above = inner_above inner.at bl.stack.free inner.words inner.place in
    let over = bl.stack.above in
    record {
      its = bl.ground;
      waits = t0;
      frame = bl.stack.frame;
      free = bl.stack.free;
      frame_is = bl.stack.frame_is;
      free_is = bl.stack.free_is;
      above = bl.stack.above;
      ends = bl.ends;
      sized = filled;
      kept = λ n t b m o. o.kept;
      own = bl.own;
      deeper = omega (arith, next);
      shown = ap (λ q. cond q bl.stack.frame (bl.levels e.level)) (eq-eqb e.level e.level refl);
      count = 0;
      behind = bl.lead;
      depths = bl.depths;
      lowest = λ same. bl.shallow (level_first e.level same);
      rises = ((omega (arith, above, over), inl next), (bl.leads, refl));
      serials = bl.serials;
      names = block;
      types = types;
      beneath = λ j kind at. (bl.lower j at, bl.owners j at);
    }

-- those around that one
abbrev pub inner_outer : {e : Environment} {block : Names} {types : Types} (bl : Block e block types) (inner : Inner bl) (t0 : ℕ → ℕ) (number level : ℕ) → level ≡ suc e.level → (o : OuterBlock) → Enclosing e o bl.ground bl.levels bl.frames.list (e.level ∷ bl.depths) → Enclosing (in_frame number level e) o (inner_ground bl inner t0) (inner_levels bl) (inner.at ∷ bl.frames.list) (level ∷ e.level ∷ bl.depths)
inner_outer {e} bl inner t0 number level next o c =
    let above = inner_above inner.at bl.stack.free inner.words inner.place in
    let below = c.deeper in
    let over = bl.stack.above in
    let high = risen_over c.count c.frame o.level bl.frames.list (e.level ∷ bl.depths) c.behind c.depths bl.stack.frame bl.lead bl.leads c.rises in
    record {
      its = c.its;
      waits = c.waits;
      frame = c.frame;
      free = c.free;
      frame_is = c.frame_is;
      free_is = c.free_is;
      above = c.above;
      ends = c.ends;
      sized = c.sized;
      kept = λ n t b m x. c.kept n t0 b m x.kept;
      own = c.own;
      deeper = omega (arith, next, below);
      shown = other_shown (o.level == e.level) bl.stack.frame (bl.levels o.level) c.frame (lower_apart o.level e.level below) c.shown;
      count = suc c.count;
      behind = c.behind;
      depths = c.depths;
      lowest = c.lowest;
      rises = ((omega (arith, above, over, high), inl next), c.rises);
      serials = c.serials;
      names = c.names;
      types = c.types;
      beneath = c.beneath;
    }

abbrev pub inner_outers : {e : Environment} {block : Names} {types : Types} (bl : Block e block types) (inner : Inner bl) (t0 : ℕ → ℕ) (number level : ℕ) → level ≡ suc e.level → (os : List OuterBlock) → Enclosures e bl.ground bl.levels bl.frames.list (e.level ∷ bl.depths) os → Enclosures (in_frame number level e) (inner_ground bl inner t0) (inner_levels bl) (inner.at ∷ bl.frames.list) (level ∷ e.level ∷ bl.depths) os
inner_outers bl inner t0 number level next [] cs = tt
inner_outers bl inner t0 number level next (o ∷ os) cs =
    (inner_outer bl inner t0 number level next o cs.0, inner_outers bl inner t0 number level next os cs.1)

-- what holds of its variables holds of theirs
pub inner_seen : {e : Environment} {block : Names} {types : Types} (bl : Block e block types) (inner : Inner bl) (t0 : ℕ → ℕ) (number level : ℕ) (next : level ≡ suc e.level) (os : List OuterBlock) (cs : Enclosures e bl.ground bl.levels bl.frames.list (e.level ∷ bl.depths) os) → AllSeen e bl.ground bl.levels bl.frames.list (e.level ∷ bl.depths) os cs bl.serials block types → AllSeen (in_frame number level e) (inner_ground bl inner t0) (inner_levels bl) (inner.at ∷ bl.frames.list) (level ∷ e.level ∷ bl.depths) os (inner_outers bl inner t0 number level next os cs) bl.serials block types
inner_seen bl inner t0 number level next [] cs seen = tt
inner_seen bl inner t0 number level next (o ∷ os) cs seen =
    (seen.0, inner_seen bl inner t0 number level next os cs.1 seen.1)

-- a variable of a block around is known
pub inner_reaches : {e : Environment} {block : Names} {types : Types} (bl : Block e block types) (inner : Inner bl) (t0 : ℕ → ℕ) (level : ℕ) → level ≡ suc e.level → (n : Values) (j : ℕ) (kind : Kind) → slice_get types j ≡ Some kind → Reaches (level_of block j == level) (level_of block j) (inner_ground bl inner t0 n) (bl.bases j)
inner_reaches {e} {block} bl inner t0 level next n j kind at =
    let g = inner_ground bl inner t0 n in
    let l = level_of block j in
    let low = bl.lower j at in
    let other : (l == level) ≡ false = grind (arith, nat_tests) in
    let above = inner_above inner.at bl.stack.free inner.words inner.place in
    let high = bl.stack.high in
    let room = inner.room in
    let reaches : Reaches false l g (bl.bases j) = (inner_place g l (omega (arith, room, low)) (omega (arith, above, high)), λ t b m o. o.shown l (omega (arith, low)) ∙ ap (λ u. b.at + u) (bl.leveled j at)) in
    subst (λ q. Reaches q l g (bl.bases j)) (sym other) reaches

pub inner_leveled : {e : Environment} {block : Names} {types : Types} (bl : Block e block types) (at level : ℕ) → level ≡ suc e.level → (j : ℕ) (kind : Kind) → slice_get types j ≡ Some kind → cond (level_of block j == level) at (inner_levels bl (level_of block j)) ≡ bl.bases j
inner_leveled {e} {block} bl at level next j kind known =
    let low = bl.lower j known in
    let other : (level_of block j == level) ≡ false = grind (arith, nat_tests) in
    ap (λ q. cond q at (inner_levels bl (level_of block j))) other ∙ bl.leveled j known

-- the block inside, in a frame of the next level
abbrev pub inner_block : {e : Environment} {block : Names} {types : Types} (bl : Block e block types) (inner : Inner bl) (t0 : ℕ → ℕ) (number level : ℕ) → level ≡ suc e.level → IsFilled bl → Block (in_frame number level e) block types
inner_block {e} {block} {types} bl inner t0 number level next filled =
    let above = inner_above inner.at bl.stack.free inner.words inner.place in
    let high = bl.stack.high in
    let over = bl.stack.over in
    record {
      ground = inner_ground bl inner t0;
      words = inner.words;
      taken = none_taken;
      labels = [];
      base = bl.base;
      within = bl.within;
      words_are = λ n. refl;
      same = λ n n' b h. refl;
      temps = inner_temporaries bl inner t0;
      alike = λ n n' same t b m o. record { kept = bl.alike n n' same t0 b m o.kept; below = o.below; own = o.own; shown = o.shown; temporaries = o.temporaries };
      declared = λ j below. bl.declared j below;
      reach = λ n. subst (λ q. Reaches q 0 (inner_ground bl inner t0 n) bl.base) (sym (other_level level e.level next)) (inner_place (inner_ground bl inner t0 n) 0 (let room = inner.room in omega (arith, room)) (omega (arith, above, high)), λ t b m o. o.shown 0 (omega arith) ∙ ap (λ u. b.at + u) (outermost_inner bl (0 == e.level) refl));
      named = bl.named;
      lower = λ j at. let low = bl.lower j at in omega (arith, low, next);
      bases = bl.bases;
      reaches = λ n j at. inner_reaches bl inner t0 level next n j _ at;
      inside = λ j at. bl.inside j at;
      places = λ j below. bl.places j below;
      reads = λ n j below fits t b m o. bl.reads n j below fits t0 b m o.kept;
      writes = λ n j z below old fits t b m len o. inner_writes bl inner t0 n j z below old fits t b m len o;
      held = refl;
      frames = atop inner.at begin_way bl.frames;
      serials = bl.serials;
      bottom = record {
        holds = bl.bottom.holds;
        aligned = bl.bottom.aligned;
        room = bl.bottom.room;
        own = bl.bottom.own;
        kept = λ n t b m o. bl.bottom.kept n t0 b m o.kept;
        rest = rest_more bl.base inner.at bl.frames.list (omega (arith, over, above)) bl.bottom.rest;
      };
      depths = e.level ∷ bl.depths;
      shallow = λ same. let no : true ≡ false = sym same ∙ other_level level e.level next in absurd (cc no);
      alone = λ same. let no : true ≡ false = sym same ∙ other_level level e.level next in absurd (cc no);
      lead = bl.frames.list;
      leads = refl;
      ends = let room = inner.room in omega (arith, room);
      sized = λ low. absurd (omega (arith, low, next));
      own = λ n t b m o. o.own;
      owners = λ j at. let o = bl.owners j at in omega (arith, o);
      first_owner = λ j at low. bl.first_owner j at low;
      stack = record {
        frame = inner.at;
        free = inner.at + fixed_size (suc e.level) 0;
        frame_is = λ n. refl;
        free_is = λ n. refl;
        aligned = let w = inner_whole inner.at bl.stack.free inner.words inner.place bl.stack.aligned in omega (arith, w);
        high = omega (arith, above, high);
        above = omega arith;
        over = omega (arith, over, above);
        keeps = λ n t b m w p x over o. record {
          kept = bl.stack.keeps n t0 b m w p x (omega (arith, above, over)) o.kept;
          below = load-store_other w 4 m p x (inner.at + 4) (inl (omega (arith, over))) ∙ o.below;
          own = load-store_other w 4 m p x (inner.at + 36) (inl (omega (arith, over))) ∙ o.own;
          shown = λ i h. load-store_other w 4 m p x (inner.at + (144 + 4 * i)) (inl (omega (arith, over, h))) ∙ o.shown i h;
          temporaries = λ i h known. load-store_other w 4 m p x (inner.at - 4 * suc i) (inl (omega (arith, over, above, h))) ∙ o.temporaries i h known;
        };
        keeps_bytes = λ n t b m bytes p over room o. record {
          kept = bl.stack.keeps_bytes n t0 b m bytes p (omega (arith, above, over)) room o.kept;
          below = load-with_other 4 bytes m p (inner.at + 4) room (inl (omega (arith, over))) ∙ o.below;
          own = load-with_other 4 bytes m p (inner.at + 36) room (inl (omega (arith, over))) ∙ o.own;
          shown = λ i h. load-with_other 4 bytes m p (inner.at + (144 + 4 * i)) room (inl (omega (arith, over, h))) ∙ o.shown i h;
          temporaries = λ i h known. load-with_other 4 bytes m p (inner.at - 4 * suc i) room (inl (omega (arith, over, above, h))) ∙ o.temporaries i h known;
        };
        under = λ j below. let u = bl.stack.under j below in omega (arith, u, above);
      };
      levels = inner_levels bl;
      level_room = λ j below. let room = inner.room in inner_level_room bl (j == e.level) j refl (omega (arith, room, above)) (omega (arith, below, next));
      outermost_level = λ inside. outermost_inner bl (0 == e.level) refl;
      displays = λ n t b m j below o. o.shown j (omega (arith, below, next));
      leveled = λ j at. inner_leveled bl inner.at level next j _ at;
      texts = record {
        room = record {
          high = λ j varying most at. bl.texts.room.high j varying most at;
          short = λ j varying most at. bl.texts.room.short j varying most at;
          inside = λ j varying most at. bl.texts.room.inside j varying most at;
        };
        under = λ j varying most at. let u = bl.texts.under j varying most at in omega (arith, u, above);
        reads = λ n j varying most at t b m o. bl.texts.reads n j varying most at t0 b m o.kept;
        writes = λ n j varying most text at t b m len o. inner_text_writes bl inner t0 n j varying most text at t b m len o;
      };
      arrays = λ j type b bs at. inner_array bl inner t0 number level (inner.at + fixed_size (suc e.level) 0) (omega arith) (bl.arrays j type b bs at);
      text_arrays = λ j varying most b bs at. inner_text_array bl inner t0 number level (inner.at + fixed_size (suc e.level) 0) (omega arith) (bl.text_arrays j varying most b bs at);
      array_names = λ j type b bs at outermost.
          let on = bl.array_names j type b bs at outermost in
          record { living = on.living; lives = on.lives; signature = on.signature; at = on.at; aligned = on.aligned; high = on.high; room = on.room; own = λ n t b' m o. on.own n t0 b' m o.kept; names = λ n t b' m o. on.names n t0 b' m o.kept };
      outer = record { level = e.level; number = e.block; labels = bl.labels } ∷ bl.outer;
      enclosing = (inner_own bl inner t0 number level next filled, inner_outers bl inner t0 number level next bl.outer bl.enclosing);
      seen = (restricts_self bl.serials block types, inner_seen bl inner t0 number level next bl.outer bl.enclosing bl.seen);
    }

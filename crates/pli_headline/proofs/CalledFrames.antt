-- The frame of a called procedure inside the main one: what stands in memory while it runs, above what stands for the block that calls it.
use Rattle.std.proofs.Common.{◌≡◌, ℕ, suc, ◌+◌, ◌-◌, ◌*◌, ◌^◌, ◌≤◌, ◌⊎◌, inl, inr, List, [], ◌∷◌, length, Some, Bool, true, false, refl, sym, ap, ◌∙◌, subst, arith, ◌<◌}
use Rattle.std.specs.Prelude.{ℤ, cond, slice_get, ◌==◌}
use Rattle.rv_meaning.specs.Words.{word}
use Rattle.rv_meaning.specs.Memory.{store}
use Rattle.rv_meaning.specs.Machine.{memory_size, store_width}
use Rattle.rv_meaning.proofs.MemoryLaws.{load-store_other}
use Rattle.pli_typing.specs.TypedTree as Y
use Rattle.pli_coding.specs.Frames.{fixed_size, temporary_bytes}
use Rattle.pli_coding.specs.Environments.{Owner, BlockOwner, Environment, in_frame, owned_by, none_taken}
use Rattle.pli_coding.specs.Procedures.{procedure_environment}
use Rattle.pli_headline.specs.ProvedSoFar.{Names, Types, OuterBlock, alone, Kind}
use Rattle.run_steps.specs.Engine.{Base}
use Rattle.pli_headline.proofs.Scalars.{Values, Fits, store_kind}
use Rattle.run_steps.specs.Bodies.{Ground}
use Rattle.run_steps.specs.Reaching.{Reaches}
use Rattle.run_steps.specs.SavedRegisters.{Saved}
use Rattle.run_steps.specs.Temporaries.{Temporaries}
use Rattle.pli_headline.proofs.Variables.{data_place, level_of, AllOutermost}
use Rattle.pli_headline.proofs.States.{with_number_at, with_text_at}
use Rattle.pli_headline.proofs.MainGround.{width_few}
use Rattle.pli_headline.proofs.Activations.{rest_more}
use Rattle.pli_headline.proofs.Entered.{atop, Way, procedure_way}
use Rattle.pli_headline.proofs.Statements.{Restricts, Enclosing, Block}
use Rattle.pli_headline.proofs.InnerFrames.{Inside, inner_whole, inner_above, inner_put, inner_place, other_level, outermost_inner}
use Rattle.pli_meaning.specs.BasicValues.{BasicText}
use Rattle.pli_serving.specs.Bytes.{with_bytes}
use Rattle.pli_serving.specs.Stored.{kept_bytes}
use Rattle.pli_headline.proofs.WrittenBytes.{load-with_other}
use Rattle.pli_headline.proofs.TextPlaces.{text_kind_of}
use Rattle.pli_headline.proofs.TextsKept.{kept_length, text_kept_as}
use Rattle.pli_headline.proofs.TextScopes.{IsTextAt}
use Rattle.pli_typing.specs.Signatures.{Bounds, element_count}
use Rattle.pli_headline.proofs.ArrayScopes.{with_element_of, ArrayOn}
use Rattle.pli_headline.proofs.TextArrayScopes.{TextArrayOn, with_text_of}
use Rattle.pli_headline.proofs.TextArraysStay.{text_stride, text_within}

-- where it lies, above the temporaries of the procedure
pub record Callee {e : Environment} {block : Names} {types : Types} (bl : Block e block types) : Type 0 where
  pub words : ℕ
  pub held : ℕ
  pub few : held ≤ 7
  pub at : ℕ
  pub place : at ≡ bl.stack.free + temporary_bytes words
  pub room : at + 164 ≤ 14 * 2 ^ 20
  pub outer : AllOutermost block types

-- ---- what is saved stays

pub saved_below : {at back count : ℕ} {h : ℕ → ℕ} {m : List ℕ} (w p x : ℕ) → p + w ≤ at → Saved at back h count m → Saved at back h count (store w m p x)
saved_below {at} {m = m} w p x below s =
    record {
      return = load-store_other w 4 m p x at (inr below) ∙ s.return;
      registers = λ j few. load-store_other w 4 m p x (at + (8 + 4 * j)) (inr (omega (arith, below))) ∙ s.registers j few;
    }

pub saved_beside : {at back count : ℕ} {h : ℕ → ℕ} {m : List ℕ} (p x : ℕ) → count ≤ 7 → (p ≡ at + 4) ⊎ (at + 36 ≤ p)
    → Saved at back h count m → Saved at back h count (store 4 m p x)
saved_beside {at} {m = m} p x most (inl e) s =
    record {
      return = load-store_other 4 4 m p x at (inl (omega (arith, e))) ∙ s.return;
      registers = λ j few. load-store_other 4 4 m p x (at + (8 + 4 * j)) (inr (omega (arith, e))) ∙ s.registers j few;
    }
saved_beside {at} {m = m} p x most (inr above) s =
    record {
      return = load-store_other 4 4 m p x at (inl (omega (arith, above))) ∙ s.return;
      registers = λ j few. load-store_other 4 4 m p x (at + (8 + 4 * j)) (inl (omega (arith, above, few, most)))
          ∙ s.registers j few;
    }

-- what is written behind them
pub saved_behind : {at back count : ℕ} {h : ℕ → ℕ} {m : List ℕ} (w p x : ℕ) → count ≤ 7 → at + 36 ≤ p
    → Saved at back h count m → Saved at back h count (store w m p x)
saved_behind {at} {m = m} w p x most above s =
    record {
      return = load-store_other w 4 m p x at (inl (omega (arith, above))) ∙ s.return;
      registers = λ j few. load-store_other w 4 m p x (at + (8 + 4 * j)) (inl (omega (arith, above, few, most)))
          ∙ s.registers j few;
    }

pub saved_behind_bytes : {at back count : ℕ} {h : ℕ → ℕ} {m : List ℕ} (bytes : List ℕ) (p : ℕ)
    → p + length bytes ≤ length m → count ≤ 7 → at + 36 ≤ p → Saved at back h count m
    → Saved at back h count (with_bytes bytes p m)
saved_behind_bytes {at} {m = m} bytes p room most above s =
    record {
      return = load-with_other 4 bytes m p at room (inl (omega (arith, above))) ∙ s.return;
      registers = λ j few. load-with_other 4 bytes m p (at + (8 + 4 * j)) room (inl (omega (arith, above, few, most)))
          ∙ s.registers j few;
    }

pub saved_beside_text : {at back count : ℕ} {h : ℕ → ℕ} {m : List ℕ} (bytes : List ℕ) (p : ℕ) → p + length bytes ≤ length m → p + length bytes ≤ at → Saved at back h count m → Saved at back h count (with_bytes bytes p m)
saved_beside_text {at} {m = m} bytes p room below s =
    record {
      return = load-with_other 4 bytes m p at room (inr below) ∙ s.return;
      registers = λ j few. load-with_other 4 bytes m p (at + (8 + 4 * j)) room (inr (omega (arith, below))) ∙ s.registers j few;
    }

-- ---- the ground

-- what stands for the caller, and what is saved
abbrev pub AroundCall : {e : Environment} {block : Names} {types : Types} (bl : Block e block types) → Callee bl → (back : Base → ℕ) → (h0 t0 : ℕ → ℕ) → Values → Base → List ℕ → Type 0
AroundCall bl callee back h0 t0 n b m = (bl.ground n).memory t0 b m × Saved callee.at (back b) h0 callee.held m

abbrev pub called_ground : {e : Environment} {block : Names} {types : Types} (bl : Block e block types) → Callee bl → (back : Base → ℕ) → (h0 t0 : ℕ → ℕ) → Values → Ground
called_ground bl callee back h0 t0 n =
    record {
      frame = callee.at;
      free = callee.at + fixed_size 1 0;
      words = callee.words;
      memory = Inside (AroundCall bl callee back h0 t0 n) bl.stack.frame 1 (λ j. bl.base) callee.at callee.words;
      whole = inner_whole callee.at bl.stack.free callee.words callee.place bl.stack.aligned;
      above_code = let a = inner_above callee.at bl.stack.free callee.words callee.place in let h = bl.stack.high in omega (arith, a, h);
      inside = let r = callee.room in omega (arith, r);
    }

pub called_temporaries : {e : Environment} {block : Names} {types : Types} (bl : Block e block types) (callee : Callee bl) (back : Base → ℕ) (h0 t0 : ℕ → ℕ) (n : Values) → Temporaries (called_ground bl callee back h0 t0 n)
called_temporaries bl callee back h0 t0 n =
    let above = inner_above callee.at bl.stack.free callee.words callee.place in
    let room = callee.room in
    record {
      kept = λ t b m j x below len fits o.
          let p = callee.at - 4 * suc j in
          record {
            kept = (bl.stack.keeps n t0 b m 4 p x (omega (arith, above, below)) o.kept.0, saved_below 4 p x (omega (arith, above, below)) o.kept.1);
            below = load-store_other 4 4 m p x (callee.at + 4) (inr (omega (arith, above, below))) ∙ o.below;
            own = load-store_other 4 4 m p x (callee.at + 36) (inr (omega (arith, above, below))) ∙ o.own;
            shown = λ i h. load-store_other 4 4 m p x (callee.at + (144 + 4 * i)) (inr (omega (arith, above, below))) ∙ o.shown i h;
            temporaries = λ i h known. inner_put (i == j) m t callee.at i j x callee.words refl len fits h below (omega (arith, above)) (omega (arith, room)) known (o.temporaries i h);
          };
      found = λ t b m j below known o. o.temporaries j below known;
    }

pub called_writes : {e : Environment} {block : Names} {types : Types} (bl : Block e block types) (callee : Callee bl) (back : Base → ℕ) (h0 t0 : ℕ → ℕ) (n : Values) (j : ℕ) (z : ℤ) {type : Y.LeafType} → slice_get types j ≡ Some (alone type) → Fits type (n.numbers j) → Fits type z → (t : ℕ → ℕ) (b : Base) (m : List ℕ) → length m ≡ memory_size → (called_ground bl callee back h0 t0 n).memory t b m → (called_ground bl callee back h0 t0 (with_number_at n j z)).memory t b (store (store_width (store_kind type)) m (bl.bases j + data_place e block j) (word z))
called_writes {e} {block} bl callee back h0 t0 n j z {type} below old fits t b m len o =
    let p = bl.bases j + data_place e block j in
    let w = store_width (store_kind type) in
    let few = width_few (store_kind type) in
    let above = inner_above callee.at bl.stack.free callee.words callee.place in
    let under = bl.stack.under j below in
    record {
      kept = (bl.writes n j z below old fits t0 b m len o.kept.0, saved_below w p (word z) (omega (arith, above, under, few)) o.kept.1);
      below = load-store_other w 4 m p (word z) (callee.at + 4) (inr (omega (arith, above, under, few))) ∙ o.below;
      own = load-store_other w 4 m p (word z) (callee.at + 36) (inr (omega (arith, above, under, few))) ∙ o.own;
      shown = λ i h. load-store_other w 4 m p (word z) (callee.at + (144 + 4 * i)) (inr (omega (arith, above, under, few))) ∙ o.shown i h;
      temporaries = λ i h known. load-store_other w 4 m p (word z) (callee.at - 4 * suc i) (inr (omega (arith, above, under, h, few))) ∙ o.temporaries i h known;
    }

-- a text is stored
pub called_text_writes : {e : Environment} {block : Names} {types : Types} (bl : Block e block types) (callee : Callee bl) (back : Base → ℕ) (h0 t0 : ℕ → ℕ) (n : Values) (j : ℕ) (varying : Bool) (most : ℕ) (text : List ℕ) → IsTextAt types j varying most → (t : ℕ → ℕ) (b : Base) (m : List ℕ) → length m ≡ memory_size → (called_ground bl callee back h0 t0 n).memory t b m → (called_ground bl callee back h0 t0 (with_text_at n j (text_kept_as varying most text))).memory t b (with_bytes (kept_bytes (text_kind_of varying most) (BasicText text)) (bl.bases j + data_place e block j) m)
called_text_writes {e} {block} bl callee back h0 t0 n j varying most text at t b m len o =
    let p = bl.bases j + data_place e block j in
    let bytes = kept_bytes (text_kind_of varying most) (BasicText text) in
    let long = kept_length varying most text in
    let above = inner_above callee.at bl.stack.free callee.words callee.place in
    let under = bl.texts.under j varying most at in
    let inside = bl.texts.room.inside j varying most at in
    let room : p + length bytes ≤ length m = omega (arith, inside, long, len) in
    record {
      kept = (bl.texts.writes n j varying most text at t0 b m len o.kept.0, saved_beside_text bytes p room (omega (arith, above, under, long)) o.kept.1);
      below = load-with_other 4 bytes m p (callee.at + 4) room (inr (omega (arith, above, under, long))) ∙ o.below;
      own = load-with_other 4 bytes m p (callee.at + 36) room (inr (omega (arith, above, under, long))) ∙ o.own;
      shown = λ i h. load-with_other 4 bytes m p (callee.at + (144 + 4 * i)) room (inr (omega (arith, above, under, long))) ∙ o.shown i h;
      temporaries = λ i h known. load-with_other 4 bytes m p (callee.at - 4 * suc i) room (inr (omega (arith, above, under, long, h))) ∙ o.temporaries i h known;
    }

-- an element is stored
pub called_element_stored : {e : Environment} {block : Names} {types : Types} (bl : Block e block types) (callee : Callee bl) (back : Base → ℕ) (h0 t0 : ℕ → ℕ) {j : ℕ} {type : Y.LeafType} {bs : List Bounds} (on : ArrayOn e block (bl.bases j) bl.stack.free bl.ground j type bs) → (n : Values) (p : ℕ) (z : ℤ) → p < element_count bs → Fits type (n.arrays j p) → Fits type z → (t : ℕ → ℕ) (b : Base) (m : List ℕ) → length m ≡ memory_size → (called_ground bl callee back h0 t0 n).memory t b m → (called_ground bl callee back h0 t0 (with_element_of n j p z)).memory t b (store (store_width (store_kind type)) m (bl.bases j + 4 * p + data_place e block j) (word z))
called_element_stored {e} {block} bl callee back h0 t0 {j} {type} on n p z inside old fits t b m len o =
    let q = bl.bases j + 4 * p + data_place e block j in
    let w = store_width (store_kind type) in
    let few = width_few (store_kind type) in
    let under = on.under in
    let above = inner_above callee.at bl.stack.free callee.words callee.place in
    record {
      kept = (on.writes n p z inside old fits t0 b m len o.kept.0, saved_below w q (word z) (omega (arith, above, under, few, inside)) o.kept.1);
      below = load-store_other w 4 m q (word z) (callee.at + 4) (inr (omega (arith, above, under, few, inside))) ∙ o.below;
      own = load-store_other w 4 m q (word z) (callee.at + 36) (inr (omega (arith, above, under, few, inside))) ∙ o.own;
      shown = λ i h. load-store_other w 4 m q (word z) (callee.at + (144 + 4 * i)) (inr (omega (arith, above, under, few, inside))) ∙ o.shown i h;
      temporaries = λ i h known. load-store_other w 4 m q (word z) (callee.at - 4 * suc i) (inr (omega (arith, above, under, h, few, inside))) ∙ o.temporaries i h known;
    }

-- an array of the main procedure
pub called_array : {e : Environment} {block : Names} {types : Types} (bl : Block e block types) (callee : Callee bl) (back : Base → ℕ) (h0 t0 : ℕ → ℕ) (owner : Owner) (head : Y.BlockHead) (free : ℕ) → callee.at + 144 ≤ free → {j : ℕ} {type : Y.LeafType} {bs : List Bounds} (on : ArrayOn e block (bl.bases j) bl.stack.free bl.ground j type bs) → ArrayOn (owned_by owner (in_frame head.number head.level e)) block (bl.bases j) free (called_ground bl callee back h0 t0) j type bs
called_array bl callee back h0 t0 owner head free over on =
    let above = inner_above callee.at bl.stack.free callee.words callee.place in
    let under = on.under in
    record {
      declared = on.declared;
      bounds = on.bounds;
      few = on.few;
      within = on.within;
      under = omega (arith, above, under, over);
      places = on.places;
      reads = λ n p inside fits t b m o. on.reads n p inside fits t0 b m o.kept.0;
      writes = λ n p z inside old fits t b m len o. called_element_stored bl callee back h0 t0 on n p z inside old fits t b m len o;
    }

-- a text is stored in an element
called_text_element_stored : {e : Environment} {block : Names} {types : Types} (bl : Block e block types) (callee : Callee bl) (back : Base → ℕ) (h0 t0 : ℕ → ℕ) {j : ℕ} {varying : Bool} {most : ℕ} {bs : List Bounds} (on : TextArrayOn e block (bl.bases j) bl.stack.free bl.ground j varying most bs) → (n : Values) (p : ℕ) (text : List ℕ) → p < element_count bs → (t : ℕ → ℕ) (b : Base) (m : List ℕ) → length m ≡ memory_size → (called_ground bl callee back h0 t0 n).memory t b m → (called_ground bl callee back h0 t0 (with_text_of n j p (text_kept_as varying most text))).memory t b (with_bytes (kept_bytes (text_kind_of varying most) (BasicText text)) (bl.bases j + p * text_stride varying most + data_place e block j) m)
called_text_element_stored {e} {block} bl callee back h0 t0 {j} {varying} {most} {bs} on n p text inside t b m len o =
    let q = bl.bases j + p * text_stride varying most + data_place e block j in
    let bytes = kept_bytes (text_kind_of varying most) (BasicText text) in
    let long = kept_length varying most text in
    let row = text_within varying most p (element_count bs) inside in
    let under = on.under in
    let within = on.within in
    let above = inner_above callee.at bl.stack.free callee.words callee.place in
    let room : q + length bytes ≤ length m = omega (arith, within, row, long, len) in
    let ends : q + length bytes ≤ bl.stack.free = omega (arith, under, row, long) in
    record {
      kept = (on.writes n p text inside t0 b m len o.kept.0, saved_beside_text bytes q room (omega (arith, above, ends)) o.kept.1);
      below = load-with_other 4 bytes m q (callee.at + 4) room (inr (omega (arith, above, ends))) ∙ o.below;
      own = load-with_other 4 bytes m q (callee.at + 36) room (inr (omega (arith, above, ends))) ∙ o.own;
      shown = λ i h. load-with_other 4 bytes m q (callee.at + (144 + 4 * i)) room (inr (omega (arith, above, ends))) ∙ o.shown i h;
      temporaries = λ i h known. load-with_other 4 bytes m q (callee.at - 4 * suc i) room (inr (omega (arith, above, ends, h))) ∙ o.temporaries i h known;
    }

-- an array of texts of the main procedure
pub called_text_array : {e : Environment} {block : Names} {types : Types} (bl : Block e block types) (callee : Callee bl) (back : Base → ℕ) (h0 t0 : ℕ → ℕ) (owner : Owner) (head : Y.BlockHead) (free : ℕ) → callee.at + 144 ≤ free → {j : ℕ} {varying : Bool} {most : ℕ} {bs : List Bounds} (on : TextArrayOn e block (bl.bases j) bl.stack.free bl.ground j varying most bs) → TextArrayOn (owned_by owner (in_frame head.number head.level e)) block (bl.bases j) free (called_ground bl callee back h0 t0) j varying most bs
called_text_array bl callee back h0 t0 owner head free over on =
    let above = inner_above callee.at bl.stack.free callee.words callee.place in
    let under = on.under in
    record {
      declared = on.declared;
      bounds = on.bounds;
      few = on.few;
      some = on.some;
      short = on.short;
      high = on.high;
      within = on.within;
      under = omega (arith, above, under, over);
      reads = λ n p inside t b m o. on.reads n p inside t0 b m o.kept.0;
      writes = λ n p text inside t b m len o. called_text_element_stored bl callee back h0 t0 on n p text inside t b m len o;
    }

-- the variables of the main procedure stand in its frame
outermost_base : {e : Environment} {block : Names} {types : Types} (bl : Block e block types) (j : ℕ) {kind : Kind} → slice_get types j ≡ Some kind → level_of block j ≡ 0 → bl.base ≡ bl.bases j
outermost_base {e} bl j at outer =
    sym (outermost_inner bl (0 == e.level) refl) ∙ ap (λ l. cond (l == e.level) bl.stack.frame (bl.levels l)) (sym outer) ∙ bl.leveled j at

pub called_reaches : {e : Environment} {block : Names} {types : Types} (bl : Block e block types) (callee : Callee bl) (back : Base → ℕ) (h0 t0 : ℕ → ℕ) (level : ℕ) → level ≡ 1 → (n : Values) (j : ℕ) (kind : Kind) → slice_get types j ≡ Some kind → Reaches (level_of block j == level) (level_of block j) (called_ground bl callee back h0 t0 n) (bl.bases j)
called_reaches {e} {block} bl callee back h0 t0 level next n j kind at =
    let g = called_ground bl callee back h0 t0 n in
    let above = inner_above callee.at bl.stack.free callee.words callee.place in
    let high = bl.stack.high in
    let room = callee.room in
    let outer = callee.outer j _ at in
    let reaches : Reaches false 0 g (bl.bases j) = (inner_place g 0 (omega (arith, room)) (omega (arith, above, high)), λ t b m o. o.shown 0 (omega arith) ∙ ap (λ u. b.at + u) (outermost_base bl j at outer)) in
    subst (λ l. Reaches (l == level) l g (bl.bases j)) (sym outer) (subst (λ q. Reaches q 0 g (bl.bases j)) (sym (other_level level 0 next)) reaches)

pub called_leveled : {e : Environment} {block : Names} {types : Types} (bl : Block e block types) (callee : Callee bl) (level : ℕ) → level ≡ 1 → (j : ℕ) (kind : Kind) → slice_get types j ≡ Some kind → cond (level_of block j == level) callee.at bl.base ≡ bl.bases j
called_leveled {block = block} bl callee level next j kind at =
    let outer = callee.outer j _ at in
    ap (λ l. cond (l == level) callee.at bl.base) outer ∙ ap (λ q. cond q callee.at bl.base) (other_level level 0 next) ∙ outermost_base bl j at outer

-- the block of a procedure or an on-unit, whatever block calls or raises it, with the main procedure's around it
abbrev pub called_block_as : {e : Environment} {block : Names} {types : Types} (bl : Block e block types) (callee : Callee bl) (back : Base → ℕ) (h0 t0 : ℕ → ℕ) (owner : Owner) (kind : Way) (head : Y.BlockHead) → head.level ≡ 1 → (o : OuterBlock) → (c : Enclosing (owned_by owner (in_frame head.number head.level e)) o (called_ground bl callee back h0 t0) (λ j. bl.base) (callee.at ∷ bl.frames.list) (head.level ∷ e.level ∷ bl.depths)) → Restricts bl.serials block types c.serials c.names c.types → Block (owned_by owner (in_frame head.number head.level e)) block types
called_block_as {e} bl callee back h0 t0 owner kind head next o c seen =
    let above = inner_above callee.at bl.stack.free callee.words callee.place in
    let high = bl.stack.high in
    let lowest = bl.stack.over in
    record {
      ground = called_ground bl callee back h0 t0;
      words = callee.words;
      taken = none_taken;
      labels = [];
      base = bl.base;
      within = bl.within;
      words_are = λ n. refl;
      same = λ n n' b h. refl;
      temps = called_temporaries bl callee back h0 t0;
      alike = λ n n' same t b m o. record { kept = (bl.alike n n' same t0 b m o.kept.0, o.kept.1); below = o.below; own = o.own; shown = o.shown; temporaries = o.temporaries };
      declared = λ j below. bl.declared j below;
      reach = λ n. subst (λ q. Reaches q 0 (called_ground bl callee back h0 t0 n) bl.base) (sym (other_level head.level 0 next)) (inner_place (called_ground bl callee back h0 t0 n) 0 (let room = callee.room in omega (arith, room)) (omega (arith, above, high)), λ t b m o. o.shown 0 (omega arith));
      named = bl.named;
      lower = λ j at. let o = callee.outer j _ at in omega (arith, o);
      bases = bl.bases;
      reaches = λ n j at. called_reaches bl callee back h0 t0 head.level next n j _ at;
      inside = λ j at. bl.inside j at;
      places = λ j below. bl.places j below;
      reads = λ n j below fits t b m o. bl.reads n j below fits t0 b m o.kept.0;
      writes = λ n j z below old fits t b m len o. called_writes bl callee back h0 t0 n j z below old fits t b m len o;
      held = refl;
      frames = atop callee.at kind bl.frames;
      serials = bl.serials;
      bottom = record {
        holds = bl.bottom.holds;
        aligned = bl.bottom.aligned;
        room = bl.bottom.room;
        own = bl.bottom.own;
        kept = λ n t b m o. bl.bottom.kept n t0 b m o.kept.0;
        rest = rest_more bl.base callee.at bl.frames.list (omega (arith, lowest, above)) bl.bottom.rest;
      };
      depths = e.level ∷ bl.depths;
      shallow = λ same. let no : true ≡ false = sym same ∙ other_level head.level 0 next in absurd (cc no);
      alone = λ same. let no : true ≡ false = sym same ∙ other_level head.level 0 next in absurd (cc no);
      lead = bl.frames.list;
      leads = refl;
      ends = let room = callee.room in omega (arith, room);
      sized = λ low. absurd (omega (arith, low, next));
      own = λ n t b m o. o.own;
      owners = λ j at. let o = bl.owners j at in omega (arith, o);
      first_owner = λ j at low. bl.first_owner j at low;
      stack = record {
        frame = callee.at;
        free = callee.at + fixed_size 1 0;
        frame_is = λ n. refl;
        free_is = λ n. refl;
        aligned = let w = inner_whole callee.at bl.stack.free callee.words callee.place bl.stack.aligned in omega (arith, w);
        high = omega (arith, above, high);
        above = omega arith;
        over = omega (arith, lowest, above);
        keeps = λ n t b m w p x over o. record {
          kept = (
            bl.stack.keeps n t0 b m w p x (omega (arith, above, over)) o.kept.0,
            saved_behind w p x callee.few (omega (arith, over)) o.kept.1,
          );
          below = load-store_other w 4 m p x (callee.at + 4) (inl (omega (arith, over))) ∙ o.below;
          own = load-store_other w 4 m p x (callee.at + 36) (inl (omega (arith, over))) ∙ o.own;
          shown = λ i h. load-store_other w 4 m p x (callee.at + (144 + 4 * i)) (inl (omega (arith, over, h))) ∙ o.shown i h;
          temporaries = λ i h known. load-store_other w 4 m p x (callee.at - 4 * suc i) (inl (omega (arith, over, above, h))) ∙ o.temporaries i h known;
        };
        keeps_bytes = λ n t b m bytes p over room o. record {
          kept = (
            bl.stack.keeps_bytes n t0 b m bytes p (omega (arith, above, over)) room o.kept.0,
            saved_behind_bytes bytes p room callee.few (omega (arith, over)) o.kept.1,
          );
          below = load-with_other 4 bytes m p (callee.at + 4) room (inl (omega (arith, over))) ∙ o.below;
          own = load-with_other 4 bytes m p (callee.at + 36) room (inl (omega (arith, over))) ∙ o.own;
          shown = λ i h. load-with_other 4 bytes m p (callee.at + (144 + 4 * i)) room (inl (omega (arith, over, h))) ∙ o.shown i h;
          temporaries = λ i h known. load-with_other 4 bytes m p (callee.at - 4 * suc i) room (inl (omega (arith, over, above, h))) ∙ o.temporaries i h known;
        };
        under = λ j below. let u = bl.stack.under j below in omega (arith, u, above);
      };
      levels = λ j. bl.base;
      level_room = λ j below. bl.within;
      outermost_level = λ inside. refl;
      displays = λ n t b m j below o. o.shown j (omega (arith, below, next));
      leveled = λ j at. called_leveled bl callee head.level next j _ at;
      texts = record {
        room = record {
          high = λ j varying most at. bl.texts.room.high j varying most at;
          short = λ j varying most at. bl.texts.room.short j varying most at;
          inside = λ j varying most at. bl.texts.room.inside j varying most at;
        };
        under = λ j varying most at. let u = bl.texts.under j varying most at in omega (arith, u, above);
        reads = λ n j varying most at t b m o. bl.texts.reads n j varying most at t0 b m o.kept.0;
        writes = λ n j varying most text at t b m len o. called_text_writes bl callee back h0 t0 n j varying most text at t b m len o;
      };
      arrays = λ j type b bs at. called_array bl callee back h0 t0 owner head (callee.at + fixed_size 1 0) (omega arith) (bl.arrays j type b bs at);
      text_arrays = λ j varying most b bs at. called_text_array bl callee back h0 t0 owner head (callee.at + fixed_size 1 0) (omega arith) (bl.text_arrays j varying most b bs at);
      array_names = λ j type b bs at outermost.
          let on = bl.array_names j type b bs at outermost in
          record { living = on.living; lives = on.lives; signature = on.signature; at = on.at; aligned = on.aligned; high = on.high; room = on.room; own = λ n t b' m o. on.own n t0 b' m o.kept.0; names = λ n t b' m o. on.names n t0 b' m o.kept.0 };
      outer = o ∷ [];
      enclosing = (c, tt);
      seen = (seen, tt);
    }

-- the block of a procedure
abbrev pub called_block : {e : Environment} {block : Names} {types : Types} (bl : Block e block types) (callee : Callee bl) (back : Base → ℕ) (h0 t0 : ℕ → ℕ) (head : Y.BlockHead) → head.level ≡ 1 → (o : OuterBlock) → (c : Enclosing (procedure_environment head e) o (called_ground bl callee back h0 t0) (λ j. bl.base) (callee.at ∷ bl.frames.list) (head.level ∷ e.level ∷ bl.depths)) → Restricts bl.serials block types c.serials c.names c.types → Block (procedure_environment head e) block types
called_block bl callee back h0 t0 head next o c seen =
    called_block_as bl callee back h0 t0 (BlockOwner (record { number = head.number; level = head.level })) procedure_way head next o c seen

-- The words by which a parameter of a block, or of one around it, is found.
use Rattle.std.proofs.Common.{◌≡◌, inl, inr, ℕ, ◌+◌, ◌*◌, List, [], ◌∷◌, sym, ap, ◌∙◌, subst}
use Rattle.std.proofs.Common.{arith}
use Rattle.rv_meaning.specs.Memory.{load}
use Rattle.pli_meaning.specs.StorageState.{Activation}
use Rattle.pli_coding.specs.Frames.{MemoryParts, list_place}
use Rattle.activation_relation.specs.Frames.{AreLaid, FramesStand, word_place}
use Rattle.activation_relation.specs.Layers.{Layer, Point}
use Rattle.activation_relation.proofs.FrameWords.{words_covered}
use Rattle.block_runs.specs.Machines.{AreEven, HasParts}
use Rattle.block_runs.proofs.Places.{IsFrame, bounds, even_frame, newest_frame}
use Rattle.program_runs.specs.Statements.{Block, IsAmong}
use Rattle.expression_runs.specs.Variables.{Spot}
use Rattle.list_calls.proofs.NamePassing.{HasNameAt}
use Rattle.parameter_runs.specs.Around.{Entry, HasListed, IsOver, IsParameterAround}

-- ---- in memory

-- its own part of the list
abbrev pub part_of : Entry → ℕ
part_of r = r.at + (24 * r.place + 4 * 0)

-- where the frame of its procedure has the list, and what the list has
pub record IsThere (frame level : ℕ) (r : Entry) (base : ℕ) (m : List ℕ) : Type 0 where
  pub offset : load 4 m (frame + 44) ≡ r.at
  pub address : load 4 m (frame + list_place level) ≡ base + r.at
  pub name : HasNameAt (part_of r) r.serial m
  pub number : load 4 m (r.at + (24 * r.place + 4 * 4)) ≡ r.signature

here_found :
    (parts : MemoryParts) (base : ℕ) (m : List ℕ) (a : Activation) (as' : List Activation) (φ : Layer) (φs : List Layer)
    (level : ℕ) (r : Entry) → FramesStand parts base m (a ∷ as') (φ ∷ φs) → IsOver level r φ φs →
    IsThere φ.at level r base m
here_found parts base m a as' φ [] level r h t = absurd t
here_found parts base m a [] φ (ψ ∷ φs) level r h t = absurd h.1
here_found parts base m a (a' ∷ as') φ (ψ ∷ φs) level r h t =
    let l = h.0.list r.at t.list in
    let w = h.1.0.waits in
    let few = t.words in
    let under = t.under in
    let place5 : word_place ψ (r.last + 5) ≡ part_of r = omega (arith, under) in
    let place4 : word_place ψ (r.last + 4) ≡ part_of r + 4 = omega (arith, under) in
    let place3 : word_place ψ (r.last + 3) ≡ part_of r + 8 = omega (arith, under) in
    let place2 : word_place ψ (r.last + 2) ≡ part_of r + 12 = omega (arith, under) in
    let place1 : word_place ψ (r.last + 1) ≡ r.at + (24 * r.place + 4 * 4) = omega (arith, under) in
    record {
      offset = l.1;
      address = ap (λ n. load 4 m (φ.at + list_place n)) (sym t.level_is) ∙ l.2;
      name = record {
        kind = ap (load 4 m) (sym place5) ∙ w (r.last + 5) 1 (omega (arith, few)) t.name.kind;
        second = ap (load 4 m) (sym place4) ∙ w (r.last + 4) 0 (omega (arith, few)) t.name.second;
        low = ap (load 4 m) (sym place3) ∙ w (r.last + 3) _ (omega (arith, few)) t.name.low;
        high = ap (load 4 m) (sym place2) ∙ w (r.last + 2) _ (omega (arith, few)) t.name.high;
      };
      number = ap (load 4 m) (sym place1) ∙ w (r.last + 1) r.signature (omega (arith, few)) t.name.number;
    }

pub listed_found :
    (parts : MemoryParts) (base : ℕ) (m : List ℕ) (as' : List Activation) (φs : List Layer) (frame level : ℕ)
    (r : Entry) → FramesStand parts base m as' φs → HasListed φs frame level r → IsThere frame level r base m
listed_found parts base m as' [] frame level r h t = absurd t
listed_found parts base m [] (φ ∷ φs) frame level r h t = absurd h
listed_found parts base m (a ∷ as') (φ ∷ φs) frame level r h (inl t) =
    subst (λ n. IsThere n level r base m) t.0 (here_found parts base m a as' φ φs level r h t.1)
listed_found parts base m (a ∷ as') (φ ∷ φs) frame level r h (inr t) =
    listed_found parts base m as' φs frame level r h.1 t

-- ---- where both lie

pub record Lying (frame : ℕ) (r : Entry) : Type 0 where
  pub frame_is : IsFrame frame
  pub list : IsFrame r.at

here_lying :
    (parts : MemoryParts) (φ : Layer) (φs : List Layer) (level : ℕ) (r : Entry) → HasParts parts →
    AreLaid parts (φ ∷ φs) → AreEven parts (φ ∷ φs) → IsOver level r φ φs → Lying φ.at r
here_lying parts φ [] level r has laid even t = absurd t
here_lying parts φ (ψ ∷ φs) level r has laid even t =
    let b = bounds parts (φ ∷ ψ ∷ φs) laid in
    let b' = bounds parts φs laid.1.1 in
    let whole = even_frame parts (ψ ∷ φs) laid.1 even.1 in
    let words = t.words in
    let under = t.under in
    let covered = words_covered ψ.words in
    let above = laid.1.0.above in
    let above' = laid.0.above in
    let fixed' = laid.1.0.fixed in
    let first = has.high in
    let last = has.inside in
    let between = b.above in
    let free = b.free in
    let high = b.high in
    let start = b'.low in
    let between' = b'.above in
    record {
      frame_is = newest_frame parts (φ ∷ ψ ∷ φs) has laid even;
      list = record {
        whole = omega (arith, whole, words, covered, above, start, under);
        high = omega (arith, words, covered, above, start, between', first, under);
        room = omega (arith, above', fixed', between, free, high, last, under);
      };
    }

listed_lying :
    (parts : MemoryParts) (φs : List Layer) (frame level : ℕ) (r : Entry) → HasParts parts → AreLaid parts φs →
    AreEven parts φs → HasListed φs frame level r → Lying frame r
listed_lying parts [] frame level r has laid even t = absurd t
listed_lying parts (φ ∷ φs) frame level r has laid even (inl t) =
    subst (λ n. Lying n r) t.0 (here_lying parts φ φs level r has laid even t.1)
listed_lying parts (φ ∷ φs) frame level r has laid even (inr t) =
    listed_lying parts φs frame level r has laid.1 even.1 t

-- ---- at a point of the block

pub listed_at :
    {k : Block} {x : Spot} {numbers : ℕ → ℕ} {p : Point} (is : IsParameterAround k x) → IsAmong k numbers p →
    HasListed p.control.layers is.base x.level is.entry
listed_at {x = x} is o = subst (λ ls. HasListed ls is.base x.level is.entry) (sym o.later.layers) is.listed

pub lying :
    {k : Block} {x : Spot} {numbers : ℕ → ℕ} {p : Point} (is : IsParameterAround k x) → IsAmong k numbers p →
    Lying is.base is.entry
lying {k} {x} {p = p} is o =
    listed_lying k.call.surroundings.parts p.control.layers is.base x.level is.entry o.image.parts o.stands.laid
    o.image.even (listed_at is o)

pub words_at :
    {k : Block} {x : Spot} {numbers : ℕ → ℕ} {p : Point} (is : IsParameterAround k x) → IsAmong k numbers p →
    (base : ℕ) (m : List ℕ) →
    FramesStand k.call.surroundings.parts base m p.state.activations p.control.layers →
    IsThere is.base x.level is.entry base m
words_at {k} {x} {p = p} is o base m frames =
    listed_found k.call.surroundings.parts base m p.state.activations p.control.layers is.base x.level is.entry frames
    (listed_at is o)

-- Bytes that are handed over piece by piece.
use Rattle.std.proofs.Common.{◌≡◌, ℕ, zero, suc, ◌+◌, ◌-◌, ◌<◌, ◌≤◌, List, [], ◌∷◌, ◌++◌, length, take, drop, replicate}
use Rattle.std.proofs.Common.{refl, subst, sym, ap, ◌∙◌, append_assoc, append-nil, length-append, arith}
use Rattle.std.proofs.Common.{Result, Ok, Err}
use Rattle.std.proofs.Math.Seq.{take-append-add}
use Rattle.std.proofs.lemmas.List.{take-append-le, take-append-drop, length-replicate, take-replicate, drop-replicate}
use Rattle.std.proofs.lemmas.Slice.{take-put_mid, drop-put_mid}
use borrow.Rule.Slice.PartMut.{put_mid}
use Rattle.pli_edit.specs.Drained.{Grows}
use Rattle.pli_edit.specs.Histories.{History, after_call}
use Rattle.pli_edit.specs.Handing.{IsHandedOver, zeros, fruitless}
use Rattle.pli_edit.specs.declared.fault.Failed.{Failed}

zeros-append : (s t : List ℕ) → zeros (s ++ t) ≡ zeros s + zeros t
zeros-append [] t = omega arith
zeros-append (zero ∷ s) t = let rest = zeros-append s t in omega (arith, rest)
zeros-append (suc n ∷ s) t = zeros-append s t

-- a write that took something
pub took :
    (bytes : List ℕ) (old new : History) (count : ℕ) → new ≡ after_call {E = Failed} (Ok count) bytes old → 0 < count →
    (new.bytes ≡ old.bytes ++ take count bytes) × (fruitless new ≡ fruitless old)
took bytes old new zero h some = absurd (omega (arith, some))
took bytes old new (suc n) h some =
    let all = zeros-append old.answers (suc n ∷ []) in
    (ap (λ (w : History). w.bytes) h, ap fruitless h ∙ omega (arith, all))

-- one that took nothing
pub took_nothing :
    (bytes : List ℕ) (old new : History) → new ≡ after_call {E = Failed} (Ok 0) bytes old →
    (new.bytes ≡ old.bytes) × (fruitless new ≡ fruitless old + 1)
took_nothing bytes old new h =
    let all = zeros-append old.answers (0 ∷ []) in
    (ap (λ (w : History). w.bytes) h ∙ append-nil old.bytes, ap fruitless h ∙ omega (arith, all))

-- one that failed
pub failed :
    (bytes : List ℕ) (old new : History) (e : Failed) → new ≡ after_call (Err e) bytes old →
    (new.bytes ≡ old.bytes) × (fruitless new ≡ fruitless old + 1)
failed bytes old new e h = (ap (λ (w : History). w.bytes) h, ap fruitless h ∙ omega arith)

-- a drain only takes more
pub handed_grows :
    (bytes : List ℕ) (old new : History) (result : Result (Unit {0}) ℕ) → IsHandedOver bytes old result new →
    Grows old new
handed_grows bytes old new (Ok done) h = (bytes, h.0)
handed_grows bytes old new (Err count) h = (take count bytes, h.1)

-- ---- one text behind another

pub joined :
    (p q : List ℕ) (start mid new : History) → IsHandedOver p start (Ok tt) mid → IsHandedOver q mid (Ok tt) new →
    IsHandedOver (p ++ q) start (Ok tt) new
joined p q start mid new h k = (k.0 ∙ (ap (λ l. l ++ q) h.0 ∙ append_assoc start.bytes p q), k.1 ∙ h.1)

-- what comes behind a text that is cut short is left
pub cut_first :
    (p q : List ℕ) (start new : History) (count : ℕ) → IsHandedOver p start (Err count) new →
    IsHandedOver (p ++ q) start (Err count) new
cut_first p q start new count h =
    let less : count < length p = h.0 in
    let front = take-append-le count p q (omega (arith, less)) in
    (omega (arith, less, length-append p q), h.1 ∙ ap (λ l. start.bytes ++ l) (sym front), h.2)

pub cut_later :
    (p q : List ℕ) (start mid new : History) (count : ℕ) → IsHandedOver p start (Ok tt) mid →
    IsHandedOver q mid (Err count) new →
    IsHandedOver (p ++ q) start (Err (length p + count)) new
cut_later p q start mid new count k h =
    let less : count < length q = h.0 in (
      omega (arith, less, length-append p q),
      h.1
          ∙ (ap (λ l. l ++ take count q) k.0
          ∙ (append_assoc start.bytes p (take count q) ∙ ap (λ l. start.bytes ++ l) (sym (take-append-add p q count)))),
      h.2 ∙ ap (λ n. n + 1) k.1,
    )

-- a field at the front of one that has more behind it
pub piece_taken :
    (fill before : ℕ) (text : List ℕ) (behind : ℕ) → before + length text + behind ≤ 256 →
    take
    (before + length text + behind)
    (replicate before fill ++ (text ++ replicate (256 - (before + length text)) fill))
    ≡ replicate before fill ++ (text ++ replicate behind fill)
piece_taken fill before text behind fits =
    let first = replicate before fill in
    let rest = replicate (256 - (before + length text)) fill in
    let size : length first + (length text + behind) ≡ before + length text + behind =
    ap (λ n. n + (length text + behind)) (length-replicate before fill) ∙ omega arith
    in
    let few : behind ≤ 256 - (before + length text) = omega (arith, fits) in
    subst (λ n. take n (first ++ (text ++ rest)) ≡ first ++ (text ++ replicate behind fill)) size
    (take-append-add first (text ++ rest) (length text + behind)
    ∙ ap (λ l. first ++ l)
    (take-append-add text rest behind
    ∙ ap (λ l. text ++ l) (take-replicate behind (256 - (before + length text)) fill few)))

-- a field that is written among fill bytes
pub field_whole :
    (fill a k : ℕ) (ys text : List ℕ) → ys ≡ text → length text ≡ k → a + length text ≤ 256 →
    put_mid a k (replicate 256 fill) ys ≡ replicate a fill ++ (text ++ replicate (256 - (a + length text)) fill)
field_whole fill a k ys text same long fits =
    let blank = replicate 256 fill in
    let whole = put_mid a k blank text in
    let n = a + length text in
    let inside : a ≤ length blank = omega (arith, fits, length-replicate 256 fill) in
    let front : take n whole ≡ replicate a fill ++ text =
    take-put_mid a k blank text n refl inside
    ∙ ap (λ l. l ++ text) (take-replicate a 256 fill (omega (arith, fits)))
    in
    let back : drop n whole ≡ replicate (256 - n) fill =
    drop-put_mid a k blank text n (omega (arith, long)) inside long ∙ drop-replicate n 256 fill
    in
    ap (λ l. put_mid a k blank l) same
    ∙ (sym (take-append-drop n whole)
    ∙ (ap (λ l. l ++ drop n whole) front
    ∙ (ap (λ l. (replicate a fill ++ text) ++ l) back
    ∙ append_assoc (replicate a fill) text (replicate (256 - n) fill))))

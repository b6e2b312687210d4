use Rattle.std.proofs.Common.{◌≡◌, ◌≤◌, ◌<◌, ℕ, zero, suc, ◌+◌, ◌-◌, List, [], ◌∷◌, ◌++◌, drop, length, take, refl, sym}
use Rattle.std.proofs.Common.{ap, ◌∙◌, arith}
use Rattle.std.proofs.lemmas.List.{length-take-le, take-append-le}
use Rattle.pli_edit.specs.Histories.{History}
use Rattle.pli_edit.specs.Feeding.{Buffered, Reading, Gave, Broke, behind, bytes_of}
use Rattle.pli_edit.specs.Feeding.{standing_behind}
use Rattle.pli_edit.specs.declared.feed.Standing.{Standing}
use Rattle.pli_edit.specs.declared.feed.Standing.TheVariants as S
use Rattle.pli_edit.proofs.feed_bytes.FeedBytes.read.Goals as goal

-- bytes that a read put behind the one that was kept
put_behind :
    (s e n : ℕ) (xs ys rest : List ℕ) → s ≤ 1 → 1 ≤ length xs → n ≤ length ys → e ≡ 1 + n →
    take (e - s) (drop s (take 1 xs ++ (ys ++ rest))) ≡ take (1 - s) (drop s xs) ++ take n ys
put_behind s e n [] ys rest few some there same = absurd (omega (arith, some))
put_behind zero e n (x ∷ xs) ys rest few some there same =
    let all : e - 0 ≡ suc n = omega (arith, same) in
    ap (λ k. take k (x ∷ (ys ++ rest))) all ∙ ap (λ l. x ∷ l) (take-append-le n ys rest there)
put_behind (suc zero) e n (x ∷ xs) ys rest few some there same =
    let all : e - 1 ≡ n = omega (arith, same) in
    ap (λ k. take k (ys ++ rest)) all ∙ take-append-le n ys rest there
put_behind (suc (suc s)) e n (x ∷ xs) ys rest few some there same = absurd (omega (arith, few))

some_behind : (bytes : List ℕ) → 0 < length bytes → S.Open ≡ standing_behind bytes
some_behind [] h = absurd (omega (arith, h))
some_behind (b ∷ bs) h = refl

abbrev buffered : History → Standing → ℕ → List ℕ → Buffered
buffered h s l p = record { fed = record { history = h; standing = s; left = l }; pending = p }

abbrev after : Reading → Buffered → Buffered
after r b = record { fed = behind r b.fed; pending = b.pending ++ bytes_of r }

abbrev answered : History → List ℕ → ℕ → History
answered h buffer n = record { failures = h.failures; answers = h.answers ++ n ∷ []; bytes = h.bytes ++ take n buffer }

pub returns-in-Err-clause-read : goal.returns-in-Err-clause-read
returns-in-Err-clause-read g c =
    let b = c.self.inside in
    let k = c.kept-self-inside in
    let left : b.left ≡ c.args.self.now.fed.left = ap (λ (h : Buffered). h.fed.left) c.self.view_is in
    let pending = put_behind k.result 1 0 k.new.buffer c.read.new.buffer (drop 4096 (drop 1 k.new.buffer))
    k.ensures.start (omega arith) (omega arith) (omega arith) in (
      Broke,
      omega (arith, left, c.if-self-eq0.false),
      ap (λ h. buffered h S.Broken (b.left - 1)
          (take (1 - k.result) (drop k.result
          (take 1 k.new.buffer ++ (c.read.new.buffer ++ drop 4096 (drop 1 k.new.buffer)))))) c.in-Err.ensures.told
          ∙ (ap (λ p. buffered (record {
            failures = (g.F.Feed.history b.feed).failures + 1;
            answers =
                (g.F.Feed.history b.feed).answers;
            bytes = (g.F.Feed.history b.feed).bytes;
          }) S.Broken (b.left - 1) p)
          (pending ∙ ap (λ p. p ++ []) k.ensures.kept)
          ∙ ap (after Broke) c.self.view_is),
    )

pub returns-in-Ok-eq0-clause-read : goal.returns-in-Ok-eq0-clause-read
returns-in-Ok-eq0-clause-read g c =
    let b = c.self.inside in
    let k = c.kept-self-inside in
    let h = g.F.Feed.history b.feed in
    let buffer = c.read.new.buffer in
    let rest = drop 4096 (drop 1 k.new.buffer) in
    let left : b.left ≡ c.args.self.now.fed.left = ap (λ (d : Buffered). d.fed.left) c.self.view_is in
    let pending = put_behind k.result 1 0 k.new.buffer buffer rest k.ensures.start (omega arith) (omega arith)
    (omega arith) in (
      Gave [],
      (omega (arith, left, c.if-self-eq0.false), omega arith),
      ap (λ d. buffered d S.Ended (b.left - 1)
          (take (1 - k.result) (drop k.result (take 1 k.new.buffer ++ (buffer ++ rest)))))
          (c.in-Ok-eq0.ensures.told ∙ ap (answered h buffer) c.in-Ok-eq0.field-0-test)
          ∙ (ap (buffered (answered h buffer 0) S.Ended (b.left - 1)) (pending ∙ ap (λ p. p ++ []) k.ensures.kept)
          ∙ ap (after (Gave [])) c.self.view_is),
    )

pub returns-in-Ok-clause-read : goal.returns-in-Ok-clause-read
returns-in-Ok-clause-read g c =
    let b = c.self.inside in
    let k = c.kept-self-inside in
    let h = g.F.Feed.history b.feed in
    let buffer = c.read.new.buffer in
    let n = c.in-Ok.count in
    let bytes = take n buffer in
    let rest = drop 4096 (drop 1 k.new.buffer) in
    let left : b.left ≡ c.args.self.now.fed.left = ap (λ (d : Buffered). d.fed.left) c.self.view_is in
    let within : n ≤ length buffer = c.in-Ok.ensures.within in
    let count : length bytes ≡ n = length-take-le n buffer within in
    let some = c.in-Ok.count-test.1 in
    let opened : b.standing ≡ standing_behind bytes =
    ap (λ (d : Buffered). d.fed.standing) c.self.view_is
    ∙ (c.requires.open ∙ some_behind bytes (omega (arith, count, some))) in
    let pending = put_behind k.result (1 + n) n k.new.buffer buffer rest k.ensures.start (omega arith) within
    (omega arith) in (
      Gave bytes,
      (omega (arith, left, c.if-self-eq0.false), omega (arith, count, within)),
      ap (λ d. buffered d b.standing (b.left - 1)
          (take (1 + n - k.result) (drop k.result (take 1 k.new.buffer ++ (buffer ++ rest)))))
          (c.in-Ok.ensures.told ∙ ap
          (λ m. record { failures = h.failures; answers = h.answers ++ m ∷ []; bytes = h.bytes ++ bytes })
          (sym count))
          ∙ (ap (buffered (record {
            failures = h.failures;
            answers = h.answers ++ length bytes ∷ [];
            bytes =
                h.bytes ++ bytes;
          }) b.standing (b.left - 1))
          (pending ∙ ap (λ p. p ++ bytes) k.ensures.kept)
          ∙ (ap (λ s. buffered (record
          { failures = h.failures; answers = h.answers ++ length bytes ∷ []; bytes = h.bytes ++ bytes }) s
          (b.left - 1)
          (take (b.end - b.place) (drop b.place b.buffer) ++ bytes)) opened
          ∙ ap (after (Gave bytes)) c.self.view_is)),
    )

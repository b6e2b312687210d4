-- Memory at first is as long as it has to be.
use Rattle.std.proofs.Common.{◌≡◌, ℕ, ◌+◌, ◌-◌, ◌*◌, ◌^◌, ◌≤◌, List, ◌++◌, length, arith, length-append}
use Rattle.std.specs.Prelude.{map, replicate}
use Rattle.std.proofs.lemmas.List.{length-map, length-replicate}
use Rattle.rv_meaning.specs.Encoding.{word_of}
use Rattle.rv_meaning.specs.Machine.{memory_size}
use Rattle.rv_meaning.specs.Memory.{bytes_of_words}
use Rattle.rv_meaning.proofs.ImageBytes.{length-bytes_of_words}
use Rattle.pli_typing.specs.Signatures.{rounded_up}
use Rattle.pli_meaning.specs.Pictures.{Picture, first_bytes}
use Rattle.run_steps.specs.Engine.{most_code}

memory_length :
    (c gap statics n : ℕ) → gap ≡ rounded_up 16 c - c → c ≤ 4 * 2 ^ 20 → statics ≤ 3 * 2 ^ 20 →
    n ≡ memory_size - (rounded_up 16 c + statics) → c + (gap + (statics + n)) ≡ memory_size
memory_length c gap statics n e h i f = omega (arith, e, h, i, f)

pub first_length :
    (image : Picture) → length image.code ≤ most_code → length image.statics ≤ 3 * 2 ^ 20 →
    length (first_bytes image) ≡ memory_size
first_length image fits statics =
    let code = bytes_of_words (map word_of image.code) in
    let n = length code in
    let gap : List ℕ = replicate (rounded_up 16 n - n) 0 in
    let rest : List ℕ = replicate (memory_size - (rounded_up 16 n + length image.statics)) 0 in
    let a = length-append code (gap ++ (image.statics ++ rest)) in
    let b = length-append gap (image.statics ++ rest) in
    let c = length-append image.statics rest in
    let words = length-bytes_of_words (map word_of image.code) in
    let same = length-map image.code word_of in
    let m = memory_length n (length gap) (length image.statics) (length rest)
    (length-replicate (rounded_up 16 n - n) 0) (omega (arith, words, same, fits)) statics
    (length-replicate (memory_size - (rounded_up 16 n + length image.statics)) 0) in
    omega (arith, a, b, c, m)

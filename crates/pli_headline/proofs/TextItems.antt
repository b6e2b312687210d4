-- Service 7 reads the items of INITIAL of a text: how often each stands, what it is, and the bytes of a text behind them.
use Rattle.std.proofs.Common.{◌≡◌, ℕ, ◌+◌, ◌-◌, ◌^◌, ◌<◌, List, [], ◌∷◌, ◌++◌, length, Some, None, Bool, true, false, refl, sym, ap, ◌∙◌, subst, arith, lit<, length-append}
use Rattle.std.specs.Prelude.{cond, replicate}
use Rattle.std.specs.List.{flat_map}
use Rattle.std.proofs.lemmas.List.{length-replicate}
use Rattle.rv_meaning.specs.declared.instr.Instr.{Instr}
use Rattle.rv_meaning.specs.Machine.{memory_size}
use Rattle.rv_meaning.specs.Memory.{bytes_of_words}
use Rattle.pli_language.specs.Tree as T
use Rattle.pli_typing.specs.Signatures.{rounded_up}
use Rattle.pli_meaning.specs.DeclaredShapes.{kind_of}
use Rattle.pli_serving.specs.Bytes.{is_data, word_at, bytes_at}
use Rattle.pli_serving.specs.InitialValues.{initial_value, initial_text, item_of, item_at, item_size, items_from}
use Rattle.pli_serving.specs.ServiceState.{Services}
use Rattle.pli_serving.specs.Templates.{put_before}
use Rattle.pli_coding.specs.StaticForms.{item_bytes}
use Rattle.pli_headline.specs.ProvedSoFar.{AreConstants, text_leaf}
use Rattle.run_steps.specs.Engine.{call_at}
use Rattle.run_steps.specs.DataNamed.{BytesStand}
use Rattle.pli_headline.proofs.FormatsRead.{is_data_there}
use Rattle.pli_headline.proofs.InitialLists.{front_stands, back_stands, words_there}
use Rattle.pli_headline.proofs.EditConstants.{bytes_there}
use Rattle.pli_headline.proofs.TextsBegun.{IsTextConstant, text_constant}

-- ---- one item

abbrev text_padding : List ℕ → List ℕ
text_padding t = replicate (rounded_up 4 (length t) - length t) 0

padded_size : (t : List ℕ) → length (t ++ text_padding t) ≡ rounded_up 4 (length t)
padded_size t =
    let a = length-append t (text_padding t) in
    let b = length-replicate {A = ℕ} (rounded_up 4 (length t) - length t) 0 in
    omega (arith, a, b)

text_read : (varying : Bool) (most : ℕ) (t : List ℕ) → initial_text (kind_of [] (text_leaf varying most)) t ≡ Some (T.InitialText t)
text_read false most t = refl
text_read true most t = refl

-- what service 7 reads at an address, and what stands behind it
record Item (code : List Instr) (u : Services) (m : List ℕ) (varying : Bool) (most at : ℕ) (item : T.InitialItem) (rest : List ℕ) : Type 0 where
  reads : item_at (call_at code u m) (kind_of [] (text_leaf varying most)) at ≡ Some item
  behind : BytesStand code m (at + item_size (word_at (at + 4) m) (word_at (at + 8) m)) rest

abbrev item : ℕ → T.InitialValue → T.InitialItem
item r v = record { repetition = r; value = v }

-- by the words at its start
item_by : (code : List Instr) (u : Services) (m : List ℕ) (varying : Bool) (most at r what n : ℕ) (v : T.InitialValue) (bytes : List ℕ) → r < 2 ^ 32 → what < 2 ^ 32 → n < 2 ^ 32 → (rest : List ℕ) → BytesStand code m at (bytes_of_words (r ∷ what ∷ n ∷ []) ++ (bytes ++ rest)) → length (bytes_of_words (r ∷ what ∷ n ∷ [])) + length bytes ≡ item_size what n → (BytesStand code m (at + 12) bytes → initial_value (call_at code u m) (kind_of [] (text_leaf varying most)) what n (at + 12) ≡ Some v) → Item code u m varying most at (item r v) rest
item_by code u m varying most at r what n v bytes r_fits what_fits n_fits rest s size read =
    let c = call_at code u m in
    let kind = kind_of [] (text_leaf varying most) in
    let ws = words_there (r ∷ what ∷ n ∷ []) (bytes ++ rest) (r_fits, (what_fits, (n_fits, tt))) s in
    let low = s.behind_code in
    let high = s.inside in
    let long = length-append (bytes_of_words (r ∷ what ∷ n ∷ [])) (bytes ++ rest) in
    let two : at + 4 + 4 ≡ at + 8 = omega arith in
    let number : word_at (at + 8) m ≡ n = ap (λ q. word_at q m) (sym two) ∙ ws.0.1.1.0 in
    let inside : is_data c.layout at 12 ≡ true = is_data_there c.layout at 12 low (omega (arith, high, long)) in
    let joined : at + 12 + length bytes ≡ at + (12 + length bytes) = omega arith in
    let further : at + 12 + length bytes ≡ at + item_size (word_at (at + 4) m) (word_at (at + 8) m) =
    joined
    ∙ ap (λ q. at + q) size
    ∙ ap (λ q. at + item_size q n) (sym ws.0.1.0)
    ∙ ap (λ q. at + item_size (word_at (at + 4) m) q) (sym number) in
    record {
      reads = ap (λ q. cond q (item_of (word_at at m) (initial_value c kind (word_at (at + 4) m) (word_at (at + 8) m) (at + 12))) None) inside
          ∙ ap (λ q. item_of q (initial_value c kind (word_at (at + 4) m) (word_at (at + 8) m) (at + 12))) ws.0.0
          ∙ ap (λ q. item_of r (initial_value c kind q (word_at (at + 8) m) (at + 12))) ws.0.1.0
          ∙ ap (λ q. item_of r (initial_value c kind what q (at + 12))) number
          ∙ ap (item_of r) (read (front_stands bytes rest ws.1));
      behind = subst (λ q. BytesStand code m q rest) further (back_stands bytes rest ws.1);
    }

item_there : (code : List Instr) (u : Services) (m : List ℕ) (varying : Bool) (most at r : ℕ) (v : T.InitialValue) (rest : List ℕ) → length m ≡ memory_size → r < 2 ^ 31 → IsTextConstant v → BytesStand code m at (item_bytes (item r v) ++ rest) → Item code u m varying most at (item r v) rest
item_there code u m varying most at r T.InitialSkip rest size times is s =
    item_by code u m varying most at r 0 0 T.InitialSkip [] (omega (arith, times)) (lit< tt) (lit< tt) rest s refl (λ none. refl)
item_there code u m varying most at r (T.InitialText t) rest size times is s =
    let c = call_at code u m in
    let n = length t in
    let kind = kind_of [] (text_leaf varying most) in
    let bytes = t ++ text_padding t in
    let long = padded_size t in
    item_by code u m varying most at r 2 n (T.InitialText t) bytes (omega (arith, times)) (lit< tt) (omega (arith, is)) rest s (ap (λ q. 12 + q) long)
    (λ there.
    let text = front_stands t (text_padding t) there in
    let high = text.inside in
    ap (λ q. cond q (initial_text kind (bytes_at n (at + 12) m)) None) (is_data_there c.layout (at + 12) n text.behind_code (omega (arith, high)))
    ∙ ap (initial_text kind) (bytes_there code m (at + 12) t size text)
    ∙ text_read varying most t)
item_there code u m varying most at r _ rest size times is s = absurd is

-- ---- all items

pub text_items_read : (code : List Instr) (u : Services) (m : List ℕ) (varying : Bool) (most : ℕ) (items : List T.InitialItem) (at : ℕ) → length m ≡ memory_size → AreConstants (text_leaf varying most) items → BytesStand code m at (flat_map item_bytes items) → items_from (call_at code u m) (kind_of [] (text_leaf varying most)) (length items) at ≡ Some items
text_items_read code u m varying most [] at size are s = refl
text_items_read code u m varying most (i ∷ more) at size are s =
    let c = call_at code u m in
    let kind = kind_of [] (text_leaf varying most) in
    let one = item_there code u m varying most at i.repetition i.value (flat_map item_bytes more) size are.0 (text_constant varying most i.value are.1.0) s in
    let next' = at + item_size (word_at (at + 4) m) (word_at (at + 8) m) in
    ap (λ o. put_before o (items_from c kind (length more) next')) one.reads
    ∙ ap (put_before (Some i)) (text_items_read code u m varying most more next' size are.1.1 one.behind)

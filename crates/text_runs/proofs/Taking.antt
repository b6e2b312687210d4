-- Numbers that come from texts: lengths, places that are found, and the numbers that texts show. The texts are dropped.
use Rattle.std.proofs.Common.{◌≡◌, ℕ, ◌+◌, ◌^◌, ◌<◌, ◌≤◌, List, [], ◌∷◌, ◌++◌, length, Option, Some, None, refl, sym}
use Rattle.std.proofs.Common.{ap, ◌∙◌, arith, lit<}
use Rattle.std.specs.Option.{option_map}
use Rattle.std.specs.Prelude.{ℤ, max, pos}
use Rattle.std.proofs.lemmas.Bool.{lt-ltb}
use Rattle.rv_meaning.specs.declared.instr.Instr.{Instr}
use Rattle.rv_meaning.specs.Words.{word}
use Rattle.pli_typing.specs.TypedTree as Y
use Rattle.pli_meaning.specs.Codes.{conversion_code}
use Rattle.pli_meaning.specs.Control.{give}
use Rattle.pli_meaning.specs.Evaluating as V
use Rattle.pli_meaning.specs.Raising as R
use Rattle.pli_meaning.specs.Texts.{index_of, number_in_text, verify_of}
use Rattle.pli_serving.specs.Answers.{Done}
use Rattle.pli_serving.specs.Finding.{Call}
use Rattle.pli_serving.specs.Outcomes.{bad_unless, becoming, on_text, on_two_texts, or_status, with_entries}
use Rattle.pli_serving.specs.ServiceState.{Entry, Services, TextEntry}
use Rattle.pli_serving.specs.TextServices as X
use Rattle.pli_coding.specs.Assembly.{size_of}
use Rattle.pli_coding.specs.Expressions.{text_code}
use Rattle.pli_coding.specs.Instructions.{service, small, tested_service}
use Rattle.pli_coding.specs.Registers.{a0, a2}
use Rattle.activation_relation.specs.Layers.{Point, services_of}
use Rattle.run_steps.specs.Bodies.{Known}
use Rattle.run_steps.proofs.Bodies.{zero_is}
use Rattle.run_steps.specs.Engine.{Base, call_at}
use Rattle.run_steps.proofs.Items.{straight}
use Rattle.run_steps.proofs.Jumps.{back_of, front_of}
use Rattle.run_steps.proofs.Reaching.{reach_moved}
use Rattle.run_steps.specs.Reach.{reached}
use Rattle.run_steps.proofs.Reach.{onward, reach_map, reach_then, reached_holds, stay}
use Rattle.run_steps.specs.Temporaries.{nothing}
use Rattle.block_runs.proofs.BlockEntries.{small_is, word_is}
use Rattle.block_runs.proofs.PointGrounds.{in_known, known_in, point_frame, point_ground}
use Rattle.program_runs.specs.Statements.{with_texts}
use Rattle.program_runs.proofs.Waiting.{texts_among, texts_in}
use Rattle.expression_runs.specs.Values.{Setting, behind}
use Rattle.text_runs.specs.Laws.{NumberDoes, TextDoes}
use Rattle.text_runs.specs.Texts.{ErrorComes, IsShort, value_aims}
use Rattle.text_runs.proofs.Lengths.{index_most, number_wide, small_wide, verify_most}
use Rattle.text_runs.proofs.Points.{value_closed}
use Rattle.text_runs.proofs.Sequences.{Last, anything, one_text, two_texts, value_leads}
use Rattle.text_runs.proofs.TextCalls.{Asking, asks, three, told}
use Rattle.text_runs.proofs.Tested.{Place, Tested, tested_comes}

-- ---- 27: the length of a text

measured_last :
    (entries : List Entry) (k : Setting) (text : List ℕ) → IsShort text →
    Last entries (TextEntry text ∷ entries) k (value_aims entries k) anything (small a2 3 ∷ service 27)
    (give (pos (length text)))
unfolding give
measured_last entries k text short p numbers taken c index f o line over' l paid there =
    let w = k.block.call.surroundings in
    let code = k.block.call.code in
    let h = point_frame o.stands o.image in
    let v = services_of p in
    let e = k.block.first.control.entries in
    let n = length text in
    let q = with_texts (entries ++ e) p in
    let one = small a2 3 ∷ [] in
    let first : Base → ℕ = λ b. (f b).machine.registers 10 in
    let second : Base → ℕ = λ b. (f b).machine.registers 11 in
    let r1 = straight c f v v
    (λ b. Known (point_ground w p h) v numbers (λ j. 0) (three first second (λ b'. 3)) b)
    (front_of one (service 27) l) (omega arith) (λ b. (there b).0.at.pc)
    (λ b.
    let o' = (known_in {t = λ j. 0} {rs = nothing} h (there b).0 tt).holds in record {
      body = record {
        services = o'.body.services;
        registers = o'.body.registers;
        bytes = o'.body.bytes;
        memory = o'.body.memory;
      };
      regs = (refl, (refl, (small_is _ 3 (zero_is o'.body) (lit< tt), tt)));
    }) in
    let asking : Asking = record {
      number = 27;
      x = first;
      y = second;
      z = λ b. 3;
      first = λ b. n;
      second = second;
      answer = λ call x0 x1 x2. X.store_served call x0 x1 x2;
    } in
    let r2 = asks {g' = point_ground w q h} asking (c + 1) (reached r1)
    (record {
      small' = lit< tt;
      serves = λ call r. refl;
      answers = λ b m.
          let call = call_at code v m in
          ap (λ es. on_text es (λ u below. becoming call (with_entries below v) (length u) (second b))) o.entries;
      more = omega arith;
    })
    (record { reserved = λ b. refl; memory = λ b m is. texts_in (entries ++ e) is }) (back_of one (service 27) l)
    (reached_holds r1) in
    record {
      to = λ early. (
        small_wide n (omega (arith, short)),
        record {
          point = q;
          numbers = numbers;
          among = texts_among k.block (TextEntry text ∷ entries) entries o over';
          since = omega arith;
          line = refl;
          stays = λ i less. refl;
          state = refl;
          reach = reach_map _
              (reach_moved {i'' = index + size_of (one ++ service 27)} (omega arith) (omega arith)
              (reach_then r1 r2))
              (λ b y is. (
                in_known h o.image.parts is,
                is.holds.regs.0 ∙ sym (word_is n (omega (arith, short))),
              ));
        },
      );
    }

pub length_measures :
    (entries : List Entry) (k : Setting) (x : Y.Text) (need : ℕ) → TextDoes entries k need x →
    NumberDoes entries k need (Y.LengthOf x)
unfolding V.number
length_measures entries k x need does =
    one_text entries k (value_aims entries k) (value_leads entries k) need
    (λ taken. text_code k.block.environment taken x) (small a2 3 ∷ service 27) (V.text k.around x)
    (λ text. give (pos (length text))) does (λ text short. measured_last entries k text short)

-- ---- 25: a place in the left text

found_last :
    (entries : List Entry) (k : Setting) (mode n : ℕ) (s t : List ℕ) → mode < 2 → n < 2 ^ 31 →
    X.place_in mode s t ≡ n →
    Last entries (TextEntry t ∷ TextEntry s ∷ entries) k (value_aims entries k) anything (small a0 mode ∷ service 25)
    (give (pos n))
unfolding give
found_last entries k mode n s t small' few same p numbers taken c index f o line over' l paid there =
    let w = k.block.call.surroundings in
    let code = k.block.call.code in
    let h = point_frame o.stands o.image in
    let v = services_of p in
    let e = k.block.first.control.entries in
    let q = with_texts (entries ++ e) p in
    let one = small a0 mode ∷ [] in
    let second : Base → ℕ = λ b. (f b).machine.registers 11 in
    let third : Base → ℕ = λ b. (f b).machine.registers 12 in
    let r1 = straight c f v v
    (λ b. Known (point_ground w p h) v numbers (λ j. 0) (three (λ b'. mode) second third) b)
    (front_of one (service 25) l) (omega arith) (λ b. (there b).0.at.pc)
    (λ b.
    let o' = (known_in {t = λ j. 0} {rs = nothing} h (there b).0 tt).holds in record {
      body = record {
        services = o'.body.services;
        registers = o'.body.registers;
        bytes = o'.body.bytes;
        memory = o'.body.memory;
      };
      regs = (small_is _ mode (zero_is o'.body) (omega (arith, small')), (refl, (refl, tt)));
    }) in
    let asking : Asking = record {
      number = 25;
      x = λ b. mode;
      y = second;
      z = third;
      first = λ b. n;
      second = second;
      answer = λ call x0 x1 x2. X.find_served call x0 x1;
    } in
    let r2 = asks {g' = point_ground w q h} asking (c + 1) (reached r1)
    (record {
      small' = lit< tt;
      serves = λ call r. refl;
      answers = λ b m.
          let call = call_at code v m in
          ap (λ u. bad_unless u (on_two_texts v.entries
          (λ left right below. becoming call (with_entries below v) (X.place_in mode left right) (second b))))
          (lt-ltb mode 2 small')
          ∙ ap (λ es. on_two_texts es
          (λ left right below. becoming call (with_entries below v) (X.place_in mode left right) (second b))) o.entries
          ∙ ap (λ u. Done (services_of q) m u (second b)) same;
      more = omega arith;
    })
    (record { reserved = λ b. refl; memory = λ b m is. texts_in (entries ++ e) is }) (back_of one (service 25) l)
    (reached_holds r1) in
    record {
      to = λ early. (
        small_wide n few,
        record {
          point = q;
          numbers = numbers;
          among = texts_among k.block (TextEntry t ∷ TextEntry s ∷ entries) entries o over';
          since = omega arith;
          line = refl;
          stays = λ i less. refl;
          state = refl;
          reach = reach_map _
              (reach_moved {i'' = index + size_of (one ++ service 25)} (omega arith) (omega arith)
              (reach_then r1 r2))
              (λ b y is. (in_known h o.image.parts is, is.holds.regs.0 ∙ sym (word_is n few)));
        },
      );
    }

few_places : (n m : ℕ) → n ≤ 1 + m → m ≤ 1024 → n < 2 ^ 31
few_places n m h i = omega (arith, h, i)

pub index_finds :
    (entries : List Entry) (k : Setting) (searched sought : Y.Text) (m n : ℕ) → TextDoes entries k m searched →
    ((s : List ℕ) → TextDoes (TextEntry s ∷ entries) k n sought) →
    NumberDoes entries k (max m n) (Y.IndexOf searched sought)
unfolding V.number
index_finds entries k searched sought m n el er =
    two_texts entries k (value_aims entries k) (value_leads entries k) m n
    (λ taken. text_code k.block.environment taken searched) (λ taken. text_code k.block.environment taken sought)
    (small a0 0 ∷ service 25) (V.text k.around searched) (V.text k.around sought)
    (λ s t. give (pos (index_of s t))) el er
    (λ s t short short'.
    found_last entries k 0 (index_of s t) s t (omega arith)
    (few_places (index_of s t) (length s) (index_most s t) short) refl)

pub verify_finds :
    (entries : List Entry) (k : Setting) (searched allowed : Y.Text) (m n : ℕ) → TextDoes entries k m searched →
    ((s : List ℕ) → TextDoes (TextEntry s ∷ entries) k n allowed) →
    NumberDoes entries k (max m n) (Y.VerifyOf searched allowed)
unfolding V.number
verify_finds entries k searched allowed m n el er =
    two_texts entries k (value_aims entries k) (value_leads entries k) m n
    (λ taken. text_code k.block.environment taken searched) (λ taken. text_code k.block.environment taken allowed)
    (small a0 1 ∷ service 25) (V.text k.around searched) (V.text k.around allowed)
    (λ s t. give (pos (verify_of s t))) el er
    (λ s t short short'.
    found_last entries k 1 (verify_of s t) s t (omega arith)
    (few_places (verify_of s t) (length s) (verify_most s t) short) refl)

-- ---- 26: the number that a text shows

word_told :
    {Z : Type 0} (c : Call) (v : Services) (mode : ℕ) (word_of : Z → ℕ) (o : Option Z) →
    or_status c mode conversion_code (option_map word_of o) (λ w. Done v c.memory w 0)
    ≡ told c.services c.memory mode conversion_code (λ r. v) word_of o
word_told c v mode word_of None = refl
word_told c v mode word_of (Some r) = refl

number_answer :
    (code : List Instr) (p : Point) (m text : List ℕ) (below : List Entry) →
    p.control.entries ≡ TextEntry text ∷ below →
    X.to_number_served (call_at code (services_of p) m) 0
    ≡ told (services_of p) m 0 conversion_code (λ z. services_of (with_texts below p)) word (number_in_text text)
number_answer code p m text below top =
    let c = call_at code (services_of p) m in
    ap (λ u. on_text u (λ t more. or_status c 0 conversion_code (X.word_in_text 0 t)
    (λ w. becoming c (with_entries more (services_of p)) w 0))) top
    ∙ word_told c (services_of (with_texts below p)) 0 word (number_in_text text)

shown_last :
    (entries : List Entry) (k : Setting) → ErrorComes ℤ k → (text : List ℕ) →
    Last entries (TextEntry text ∷ entries) k (value_aims entries k) anything (small a0 0 ∷ tested_service 26)
    (R.or_error k.around conversion_code (number_in_text text))
shown_last entries k error text p numbers taken c index f o line over' l paid there =
    let w = k.block.call.surroundings in
    let code = k.block.call.code in
    let h = point_frame o.stands o.image in
    let v = services_of p in
    let e = k.block.first.control.entries in
    let q = with_texts (entries ++ e) p in
    let one = small a0 0 ∷ [] in
    let second : Base → ℕ = λ b. (f b).machine.registers 11 in
    let third : Base → ℕ = λ b. (f b).machine.registers 12 in
    let whole = behind p numbers taken c index (one ++ tested_service 26) in
    let r1 = straight c f v v
    (λ b. Known (point_ground w p h) v numbers (λ j. 0) (three (λ b'. 0) second third) b)
    (front_of one (tested_service 26) l) (omega arith) (λ b. (there b).0.at.pc)
    (λ b.
    let o' = (known_in {t = λ j. 0} {rs = nothing} h (there b).0 tt).holds in record {
      body = record {
        services = o'.body.services;
        registers = o'.body.registers;
        bytes = o'.body.bytes;
        memory = o'.body.memory;
      };
      regs = (small_is _ 0 (zero_is o'.body) (lit< tt), (refl, (refl, tt)));
    }) in
    onward (value_closed entries k whole) r1
    (λ g at.
    let place : Place = record {
      entries = TextEntry text ∷ entries;
      setting = k;
      point = p;
      numbers = numbers;
      credits = c + 1;
      index = index + 1;
      family = g;
    } in
    let asked : Tested ℤ = record {
      number = 26;
      code = conversion_code;
      x = λ b. 0;
      y = second;
      z = third;
      answer = λ call x0 x1 x2. X.to_number_served call x0;
      outcome = number_in_text text;
      texts = λ z. entries ++ e;
      result = λ z b. word z;
    } in
    tested_comes place asked (value_closed entries k whole) refl h
    (record {
      among = o;
      line = line;
      linked = back_of one (tested_service 26) l;
      paid = omega (arith, paid);
      there = at;
    })
    (record {
      small' = lit< tt;
      coded = lit< tt;
      some = refl;
      serves = λ call r. refl;
      answers = λ b m. number_answer code p m text (entries ++ e) o.entries;
    })
    error (λ c' f' v' height label s' q'. q')
    (λ z g' is at'. (
      number_wide text z is,
      record {
        point = q;
        numbers = numbers;
        among = texts_among k.block (TextEntry text ∷ entries) entries o over';
        since = omega arith;
        line = refl;
        stays = λ i less. refl;
        state = refl;
        reach = reach_map _
            (reach_moved {c'' = whole.wanted} {i'' = whole.index} (omega arith) (omega arith)
            (stay code (c + 1 + 5) g' (services_of q) _ at'))
            (λ b y is'. (in_known h o.image.parts is', is'.holds.regs.0));
      },
    )))

pub text_shows :
    (entries : List Entry) (k : Setting) (x : Y.Text) (need : ℕ) → ErrorComes ℤ k → TextDoes entries k need x →
    NumberDoes entries k need (Y.NumberOfText x)
unfolding V.number
text_shows entries k x need error does =
    one_text entries k (value_aims entries k) (value_leads entries k) need
    (λ taken. text_code k.block.environment taken x) (small a0 0 ∷ tested_service 26) (V.text k.around x)
    (λ text. R.or_error k.around conversion_code (number_in_text text)) does
    (λ text short. shown_last entries k error text)

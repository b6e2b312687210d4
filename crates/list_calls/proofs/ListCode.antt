-- What stands before the instruction that calls: the list is given, and the frame of the static parent comes into a0.
use Rattle.std.proofs.Common.{◌≡◌, ℕ, suc, ◌+◌, ◌-◌, ◌*◌, ◌^◌, ◌<◌, ◌≤◌, List, [], ◌∷◌, ◌++◌, length}
use Rattle.std.proofs.Common.{refl, sym, ap, ◌∙◌, arith}
use Rattle.std.proofs.lemmas.Int.{ints}
use Rattle.std.proofs.lemmas.List.{append_assoc}
use Rattle.std.specs.Prelude.{neg_ℤ, pos, ◌==◌}
use Rattle.rv_meaning.specs.Machine.{value}
use Rattle.rv_meaning.specs.Words.{sum, word}
use Rattle.pli_coding.specs.Assembly.{CallTo, Code, ProcedureEntry, size_of}
use Rattle.pli_coding.specs.Environments.{Environment}
use Rattle.pli_coding.specs.Expressions.{ArgumentList, all_converted_last, argument_count, arguments_code, call_code}
use Rattle.pli_coding.specs.Expressions.{text_count}
use Rattle.pli_coding.specs.Frames.{words_place}
use Rattle.pli_coding.specs.Instructions.{number, plus}
use Rattle.pli_coding.specs.Registers.{a1, a2, frame_register}
use Rattle.activation_relation.specs.Chains.{frame_at}
use Rattle.activation_relation.specs.FrameLaws.{with_waits}
use Rattle.activation_relation.specs.Layers.{Layer, Point, services_of}
use Rattle.run_steps.specs.Engine.{Base}
use Rattle.run_steps.specs.Items.{Linked}
use Rattle.run_steps.specs.Reach.{Family, Reach}
use Rattle.run_steps.proofs.Reach.{reach_map}
use Rattle.block_runs.specs.Beginnings.{Beginning}
use Rattle.block_runs.specs.Machines.{AreIn, IsIn}
use Rattle.block_runs.proofs.Places.{IsFrame}
use Rattle.block_runs.proofs.PointGrounds.{point_frame}
use Rattle.program_runs.specs.Statements.{Block, IsAmong, IsBegun}
use Rattle.expression_runs.specs.Values.{Setting, in_registers}
use Rattle.argument_runs.specs.ListBeginnings.{IsListing}
use Rattle.argument_runs.specs.Lists.{with_list}
use Rattle.nested_calls.specs.Nested.{IsNested, given_code, parent_at, parent_code}
use Rattle.nested_calls.proofs.GivenCode.{given}
use Rattle.nested_calls.proofs.NestedCalls.{parent_inside, parent_reached}
use Rattle.word_runs.specs.Words.{telling}
use Rattle.word_runs.proofs.Words.{begun_telling}
use Rattle.list_calls.specs.Arguments.{ByName, ByValue, Way, arguments_of}
use Rattle.list_calls.specs.ListCalls.{Listed, all_words, calling_of}
use Rattle.list_calls.specs.Lists.{Told}
use Rattle.list_calls.proofs.ListGiving.{list_code}

-- ---- the code of a call

many_arguments : (us : List Way) → argument_count (arguments_of us) ≡ length us
many_arguments [] = refl
many_arguments (u ∷ us) = ap (λ n. suc n) (many_arguments us)

none_converted :
    (e : Environment) (l : ArgumentList) (n : ℕ) (us : List Way) → all_converted_last e l n (arguments_of us) ≡ []
none_converted e l n [] = refl
none_converted e l n (ByValue source ∷ us) = none_converted e l (suc n) us
none_converted e l n (ByName v serial signature ∷ us) = none_converted e l (suc n) us

no_texts : (us : List Way) → text_count (arguments_of us) ≡ 0
no_texts [] = refl
no_texts (ByValue source ∷ us) = let e = no_texts us in omega (arith, e)
no_texts (ByName v serial signature ∷ us) = let e = no_texts us in omega (arith, e)

abbrev pub last_of : Listed → Code
last_of u = CallTo (ProcedureEntry u.callee.procedure.head.number) ∷ []

abbrev pub giving_in : Block → Listed → Code
giving_in k u = given_code (u.level == k.environment.level) (all_words u) u.level

-- the list stands in its words
abbrev pub given_list : Setting → Listed → (taken : ℕ) → Code
given_list k u taken = list_code k (all_words u) taken u.words (6 * length u.ways) 0 u.ways

pub call_coded :
    (k : Setting) (u : Listed) (taken : ℕ) →
    call_code k.block.environment (in_registers u.words taken) (calling_of u)
    ≡ given_list k u taken ++ (giving_in k.block u ++ last_of u)
call_coded k u taken =
    let e = k.block.environment in
    let as' = arguments_of u.ways in
    let own = u.level == e.level in
    let parent = parent_code own u.level in
    let list : ℕ → ArgumentList = λ m. record { place = u.words; words = 6 * m } in
    let first : ℕ → Code = λ m. arguments_code e (in_registers (u.words + 6 * m) taken) (list m) 0 as' in
    let whole : (m : ℕ) → Code → (texts : ℕ) → Code = λ m converted texts. first m
    ++ (converted
    ++ (plus a1 frame_register (words_place u.words (6 * m)) ++ (number a2 texts ++ (parent ++ last_of u)))) in
    let m = argument_count as' in
    let place = words_place u.words (6 * length u.ways) in
    let same : u.words + 6 * length u.ways ≡ all_words u + 0 = omega arith in
    joined (first m) (all_converted_last e (list m) 0 as') (plus a1 frame_register (words_place u.words (6 * m)))
    (number a2 (text_count as')) parent
    ∙ ap (λ j. whole j (all_converted_last e (list j) 0 as') (text_count as')) (many_arguments u.ways)
    ∙ ap (λ c. whole (length u.ways) c (text_count as')) (none_converted e (list (length u.ways)) 0 u.ways)
    ∙ ap (λ t. whole (length u.ways) [] t) (no_texts u.ways)
    ∙ ap (λ j. given_list k u taken
    ++ (plus a1 frame_register (neg_ℤ (pos (4 * j))) ++ (number a2 0 ++ (parent ++ last_of u)))) same
    ∙ ap (λ w. given_list k u taken ++ (plus a1 frame_register (words_place (all_words u) 0) ++ w))
    (sym (append_assoc (number a2 0) parent (last_of u)))
    ∙ ap (λ w. given_list k u taken ++ w)
    (sym (append_assoc (plus a1 frame_register (words_place (all_words u) 0)) (number a2 0 ++ parent) (last_of u)))
  where
    joined :
        (first converted list texts parent : Code) →
        first ++ (converted ++ (list ++ (texts ++ (parent ++ last_of u))))
        ≡ first ++ (converted ++ (list ++ (texts ++ (parent ++ last_of u))))
    joined first converted list texts parent = refl

-- ---- the frame of the static parent, where words are told

nested_told :
    (k : Block) (φ : Layer) (φs : List Layer) (told : Told) → IsNested k → IsNested (telling told φ φs k)
nested_told k φ φs told h = record { own = h.own; few = h.few; some = h.some; same = h.same }

listed_is :
    (b : Base) (at many x : ℕ) → IsFrame at → 4 * many + 2 ^ 22 ≤ at → x ≡ sum (b.at + at) (word (words_place many 0)) →
    x ≡ b.at + (at - 4 * many)
listed_is b at many x h low e =
    let room = h.room in
    let v = b.valid.1 in
    omega (arith, ints, e, room, low, v)

pub giving_comes :
    (k : Block) (level many : ℕ) {numbers : ℕ → ℕ} (p : Point) (φ : Layer) (φs : List Layer) (told : Told)
    (x : Beginning) (credits index : ℕ) (f : Family) → IsNested k → IsBegun k → k.first.control.layers ≡ φ ∷ φs →
    IsAmong (telling told φ φs k) numbers (with_list told φ φs p) → level ≤ k.environment.level →
    (many < 2 ^ 20) × (4 * many + 2 ^ 22 ≤ φ.at) → (x.texts ≡ 0) × (x.entry.parent ≡ parent_at k level) →
    Linked k.call.surroundings.links k.call.code index (given_code (level == k.environment.level) many level) →
    AreIn k.call.surroundings (with_list told φ φs p) numbers index f →
    Reach k.call.code credits f (services_of (with_list told φ φs p))
    (credits + size_of (given_code (level == k.environment.level) many level)) (services_of (with_list told φ φs p))
    (λ b y. IsIn k.call.surroundings (with_list told φ φs p) numbers
    (index + size_of (given_code (level == k.environment.level) many level)) b y
    × IsListing (with_list told φ φs p) x (φ.at - 4 * many) b y)
giving_comes k level many {numbers} p φ φs told x credits index f nest begun newest o within few is l there =
    let q = with_list told φ φs p in
    let k' = telling told φ φs k in
    let own = level == k.environment.level in
    let base = frame_at k'.first.control.layers (parent_at k level) in
    let nest' = nested_told k φ φs told nest in
    let begun' = begun_telling k φ φs told newest begun in
    let h = point_frame o.stands o.image in
    let r = given own many level base x index credits f o.stands o.image (few.0, is.0)
    (parent_reached {k = k'} level nest' begun' o within)
    (parent_inside {k = k'} level nest' o within, ap (λ n. frame_at (with_waits told φ ∷ φs) n) (sym is.1)) l there in
    reach_map _ r
    (λ b y u. (
      u.0,
      record { calling = u.1; address = listed_is b φ.at many (value y.machine a1) h few.1 u.2 },
    ))

-- What each step of a program's image gives, by what is known of it.
use Rattle.std.proofs.Common.{◌≡◌, ℕ, ◌+◌, ◌<◌, List, [], ◌∷◌, ◌++◌, length, map, drop, get_or, refl, sym, ap, ◌∙◌, append_assoc, append-nil}
use Rattle.std.specs.Prelude.{Vec}
use Rattle.std.specs.declared.alloc.Global.{Global}
use Rattle.rv_meaning.specs.Tables.{TableSignature, signature_words, table_words}
use Rattle.rv_meaning.specs.Encoding.{word_of}
use Rattle.rv_meaning.specs.Images.{Image, image}
use Rattle.pli_typing.specs.declared.statement.Typed.{Typed}
use Rattle.pli_typing.specs.TypedStatementView.{program_of}
use Rattle.pli_coding.specs.Assembly.{Code}
use Rattle.pli_coding.specs.Environments.{Environment}
use Rattle.pli_coding.specs.Linking.{data_bytes}
use Rattle.pli_coding.specs.Procedures.{procedures_code, routines_code}
use Rattle.pli_coding.specs.SignatureTable.{table_of}
use Rattle.pli_coding.specs.Images.{code_in, code_of, image_of, linked_code, raise_code, start_code}
use Rattle.pli_frames.specs.Parts.{parts}
use Rattle.rv_address.specs.Rows.{items_of, words_of}
use Rattle.rv_address.proofs.Declared.{shown_from}
use Rattle.rv_program.specs.Joined.{joined}

pub next_signature : (xs : List (Vec ℕ Global)) (i : ℕ) (x : Vec ℕ Global) (words after target : List ℕ) → i < length xs → x ≡ get_or xs i x → after ≡ words ++ x.items
    → words ++ joined (map items_of (drop i xs)) ≡ target → after ++ joined (map items_of (drop (i + 1) xs)) ≡ target
next_signature xs i x words after target h e a is =
    ap (λ u. u ++ joined (map items_of (drop (i + 1) xs))) a
    ∙ append_assoc words x.items (joined (map items_of (drop (i + 1) xs)))
    ∙ ap (λ u. words ++ joined u) (sym (shown_from items_of xs i x h e))
    ∙ is

pub nothing_more : (words : List ℕ) → words ++ [] ≡ words
nothing_more words = append-nil words

joined_is : (gs : List TableSignature) → joined (words_of gs) ≡ table_words gs
joined_is [] = refl
joined_is (g ∷ gs) = ap (λ u. signature_words g ++ u) (joined_is gs)

pub table_joined : (gs : List TableSignature) (xs : List (Vec ℕ Global)) (t : List ℕ) → map items_of xs ≡ words_of gs → t ≡ joined (map items_of xs) → t ≡ table_words gs
table_joined gs xs t e h = h ∙ ap joined e ∙ joined_is gs

-- ---- the whole code

behind : (code now after one rest : Code) → now ≡ code ++ one → after ≡ now ++ rest → after ≡ code ++ (one ++ rest)
behind code now after one rest e h = h ∙ ap (λ u. u ++ rest) e ∙ append_assoc code one rest

four : (c0 c1 c2 c3 c4 p1 p2 p3 p4 : Code) → c1 ≡ c0 ++ p1 → c2 ≡ c1 ++ p2 → c3 ≡ c2 ++ p3 → c4 ≡ c3 ++ p4 → c4 ≡ c0 ++ (p1 ++ (p2 ++ (p3 ++ p4)))
four c0 c1 c2 c3 c4 p1 p2 p3 p4 e1 e2 e3 e4 = behind c0 c1 c4 p1 (p2 ++ (p3 ++ p4)) e1 (behind c1 c2 c4 p2 (p3 ++ p4) e2 (behind c2 c3 c4 p3 p4 e3 e4))

pub whole : (e : Environment) (c0 c1 c2 c3 c4 : Code) → c1 ≡ c0 ++ start_code e → c2 ≡ c1 ++ raise_code → c3 ≡ c2 ++ routines_code e e.blocks → c4 ≡ c3 ++ procedures_code e e.program.procedures → c4 ≡ c0 ++ code_in e
whole e c0 c1 c2 c3 c4 e1 e2 e3 e4 = four c0 c1 c2 c3 c4 (start_code e) raise_code (routines_code e e.blocks) (procedures_code e e.program.procedures) e1 e2 e3 e4

-- ---- the image

pub image_is : (i : Image) (code : Code) (table : List ℕ) (known typed : Typed) → known ≡ typed → code ≡ code_of parts (program_of known) → table ≡ table_words (table_of (program_of known)) → i ≡ image (map word_of (linked_code code)) (data_bytes code) 0 table
    → i ≡ image_of parts (program_of typed)
image_is i code table known typed is c t h =
    h
    ∙ ap (λ (u : Code). image (map word_of (linked_code u)) (data_bytes u) 0 table) c
    ∙ ap (λ us. image (map word_of (linked_code (code_of parts (program_of known)))) (data_bytes (code_of parts (program_of known))) 0 us) t
    ∙ ap (λ (x : Typed). image_of parts (program_of x)) is

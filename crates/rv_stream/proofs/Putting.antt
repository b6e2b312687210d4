-- Lists of what PUT writes, from their front.
use Rattle.std.proofs.Common.{◌≡◌, ◌<◌, ℕ, ◌+◌, List, [], ◌++◌, map, length, get_or, drop, sym, ap, ◌∙◌, append_assoc}
use Rattle.std.proofs.Common.{append-nil}
use Rattle.pli_language.specs.Tree.{Formats}
use Rattle.pli_typing.specs.declared.typed.PutItem.{PutItem}
use Rattle.pli_typing.specs.declared.typed.PutPair.{PutPair}
use Rattle.pli_typing.specs.TypedStatementView.{put_item_of, put_pair_of}
use Rattle.pli_coding.specs.Assembly.{Code}
use Rattle.pli_coding.specs.Environments.{Environment, Taken}
use Rattle.pli_coding.specs.Streams.{item_put, items_put, put_pair, put_pairs}
use Rattle.rv_item.proofs.Leaves.{shown_from}

pub next_piece : (code next piece rest whole target : Code) → next ≡ code ++ piece → whole ≡ piece ++ rest → code ++ whole ≡ target → next ++ rest ≡ target
next_piece code next piece rest whole target n w is =
    ap (λ u. u ++ rest) n ∙ append_assoc code piece rest ∙ ap (λ u. code ++ u) (sym w) ∙ is

pub next_item : (e : Environment) (t : Taken) (formats : Formats) (xs : List PutItem) (i : ℕ) (x : PutItem) (code next target : Code) → i < length xs → x ≡ get_or xs i x
    → next ≡ code ++ item_put e t formats (put_item_of x)
    → code ++ items_put e t formats (map put_item_of (drop i xs)) ≡ target
    → next ++ items_put e t formats (map put_item_of (drop (i + 1) xs)) ≡ target
next_item e t formats xs i x code next target h s n is =
    next_piece code next (item_put e t formats (put_item_of x)) (items_put e t formats (map put_item_of (drop (i + 1) xs))) (items_put e t formats (map put_item_of (drop i xs))) target n
    (ap (items_put e t formats) (shown_from put_item_of xs i x h s)) is

pub no_item : (e : Environment) (t : Taken) (formats : Formats) (code : Code) → code ++ items_put e t formats [] ≡ code
no_item e t formats code = append-nil code

pub next_pair : (e : Environment) (t : Taken) (xs : List PutPair) (i : ℕ) (x : PutPair) (code next target : Code) → i < length xs → x ≡ get_or xs i x
    → next ≡ code ++ put_pair e t (put_pair_of x)
    → code ++ put_pairs e t (map put_pair_of (drop i xs)) ≡ target
    → next ++ put_pairs e t (map put_pair_of (drop (i + 1) xs)) ≡ target
next_pair e t xs i x code next target h s n is =
    next_piece code next (put_pair e t (put_pair_of x)) (put_pairs e t (map put_pair_of (drop (i + 1) xs))) (put_pairs e t (map put_pair_of (drop i xs))) target n
    (ap (put_pairs e t) (shown_from put_pair_of xs i x h s)) is

pub no_pair : (e : Environment) (t : Taken) (code : Code) → code ++ put_pairs e t [] ≡ code
no_pair e t code = append-nil code

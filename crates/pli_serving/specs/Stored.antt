-- Values as elements keep them: what a store writes.
use Rattle.std.specs.Prelude.{ℕ, List, []}
use Rattle.pli_typing.specs.Signatures.{LeafKind}
use Rattle.pli_meaning.specs.BasicValues.{BasicValue, BasicText}
use Rattle.pli_meaning.specs.Contents.{kept}
use Rattle.pli_serving.specs.Values.{value_bytes}

-- a text padded or cut to its element; what stands behind the length in force stays in memory as it was
abbrev pub kept_value : LeafKind → BasicValue → BasicValue
kept_value kind v = kept kind (BasicText []) v

abbrev pub kept_bytes : LeafKind → BasicValue → List ℕ
kept_bytes kind v = value_bytes kind (kept_value kind v)

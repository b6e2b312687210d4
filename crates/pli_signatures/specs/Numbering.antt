-- What filling in comes to: the number of the signature, and the signatures behind it.
use Rattle.std.specs.Prelude.{ℕ, Bool, ◌&&◌, nat_lt, List, Option, Some, None, if◌then◌else◌}
use Rattle.pli_types.specs.Templates.{OpenLeaf, Template}
use Rattle.pli_serving.specs.Arguments.{own_signature}
use Rattle.pli_serving.specs.SignatureService.{same_open_kind, same_pairs, number_of, with_template}

abbrev pub same_leaf : OpenLeaf → OpenLeaf → Bool
same_leaf a b = same_open_kind a.kind b.kind && same_pairs a.bounds b.bounds

-- whether a number is left for a signature
abbrev pub has_number : Template → List Template → Bool
has_number t templates = nat_lt (number_of t templates) own_signature

abbrev pub number_kept : Template → List Template → Option ℕ
number_kept t templates = if has_number t templates then Some (number_of t templates) else None

abbrev pub kept_with : Template → List Template → List Template
kept_with t templates = if has_number t templates then with_template t templates else templates

-- none where there is nothing to keep
abbrev pub number_filled : Option Template → List Template → Option ℕ
number_filled None templates = None
number_filled (Some t) templates = number_kept t templates

abbrev pub filled_with : Option Template → List Template → List Template
filled_with None templates = templates
filled_with (Some t) templates = kept_with t templates

-- What is read before an image's parts, and what is found of its bytes.
use Rattle.std.specs.Prelude.{◌≡◌, ◌≢◌, ℕ, ◌+◌, ◌*◌, List, length}
use Rattle.rv_meaning.specs.declared.image.ImageFault.{ImageFault}
use Rattle.rv_meaning.specs.declared.image.ImageFault.TheVariants as F
use Rattle.rv_meaning.specs.Images.{Image, HasBytes, entry_in, code_length, statics_length, table_length, Keeps, IsRefused}
use Rattle.rv_image.specs.declared.header.Header.{Header}

abbrev pub header_statics : Header → ℕ
header_statics h = 24 + 4 * h.code

abbrev pub header_table : Header → ℕ
header_table h = header_statics h + h.statics

abbrev pub header_end : Header → ℕ
header_end h = header_table h + 4 * h.table

pub record IsHeaderOf (h : Header) (b : List ℕ) : Type 0 where
  pub entry_is : h.entry ≡ entry_in b
  pub code_is : h.code ≡ code_length b
  pub statics_is : h.statics ≡ statics_length b
  pub table_is : h.table ≡ table_length b

-- the header of bytes that keep all rules
pub record IsChecked (h : Header) (b : List ℕ) : Type 0 where
  pub header : IsHeaderOf h b
  pub inside : header_end h ≡ length b
  pub kept : (fault : ImageFault) → Keeps fault b

-- the least broken rule, for which no memory was asked
pub record IsRefusal (b : List ℕ) (fault : ImageFault) : Type 0 where
  pub no_want : fault ≢ F.Memory
  pub refused : IsRefused b fault

-- what bytes are refused with: the least broken rule; or they are an image's, and there was no memory for it
pub data IsFaultOf (b : List ℕ) (fault : ImageFault) : Type 0 where
  broken : IsRefusal b fault → IsFaultOf b fault
  out_of_memory : fault ≡ F.Memory → (i : Image) → HasBytes i b → IsFaultOf b fault

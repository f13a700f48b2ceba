use Rattle.std.proofs.Common.{refl}
use Rattle.ciphers.specs.AesFieldLemmas.{byte_ring}
use Rattle.ciphers.specs.AesTablesLemmas.{times_inverse, inverse_zero, entry, inv_entry, substitution_undone, substitution_redone}
use Rattle.ciphers.specs.AesColumns.{mixing_undone, mixing_redone}
use Rattle.ciphers.proofs.aes.aes_laws.Goals as goal

pub returns : goal.returns
returns c = (
  refl,
  record {
    field = byte_ring;
    times_inverse_is_one = times_inverse;
    inverse_of_zero_is_zero = inverse_zero;
    table_is_affine_of_inverse = entry;
    inv_table_is_inverse_of_inv_affine = inv_entry;
    substitution_undone = substitution_undone;
    substitution_redone = substitution_redone;
    mixing_undone = λ w l h. mixing_undone w h l;
    mixing_redone = λ w l h. mixing_redone w h l;
  },
)

use Rattle.field.proofs.Products.{laws}
use Rattle.field.proofs.field_laws.Goals as goal

pub returns-clause-laws : goal.returns-clause-laws
returns-clause-laws c = laws

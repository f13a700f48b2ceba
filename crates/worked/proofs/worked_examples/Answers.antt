use Rattle.worked.proofs.Computed.{examples}
use Rattle.worked.proofs.worked_examples.Goals as goal

pub returns : goal.returns
returns c = record { answer = c.chain_examples.ensures.value; examples = examples c.chain_examples.ensures.examples }

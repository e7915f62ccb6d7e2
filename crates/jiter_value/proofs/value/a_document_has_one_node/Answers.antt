use Rattle.jiter_value.proofs.Words.{one_node}
use Rattle.jiter_value.proofs.value.a_document_has_one_node.Goals as goal

pub returns : goal.returns
returns c = one_node

use Rattle.spki_cert.proofs.HeadedLists.{headless-list}
use Rattle.spki_cert.proofs.headed_list.HeadedList.of.Goals as goal

pub returns-in_default : goal.returns-in_default
returns-in_default c = headless-list c.args.node.now c.in_default.ensures

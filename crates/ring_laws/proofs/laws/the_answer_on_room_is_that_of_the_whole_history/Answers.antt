use Rattle.world_laws.specs.RingLaws.{ring_of}
use Rattle.ring_laws.specs.RoomLaws.{same_room}
use Rattle.ring_laws.proofs.laws.the_answer_on_room_is_that_of_the_whole_history.Goals as goal

pub returns : goal.returns
returns c = λ site ring count is fit. same_room site.head.spaces site.history site.starts site.lines ring fit.history (ring_of site ring is fit) count

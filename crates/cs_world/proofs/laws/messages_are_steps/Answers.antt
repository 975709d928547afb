use Rattle.cs_world.proofs.Listing.{answered_by_steps, lists_follow, told_by_steps}
use Rattle.cs_world.proofs.laws.messages_are_steps.Goals as goal

pub returns : goal.returns
returns c = record {
  message = λ w conn now low inside bytes told s registry. told_by_steps w conn now low inside s registry bytes told;
  answered = λ w conn now low inside message reply s registry. answered_by_steps w conn now low inside s registry message reply;
  follow = lists_follow;
}

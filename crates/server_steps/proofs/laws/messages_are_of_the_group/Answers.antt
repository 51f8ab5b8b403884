use Rattle.server_steps.proofs.GroupLemmas.{of_the_group}
use Rattle.server_steps.proofs.laws.messages_are_of_the_group.Goals as goal

pub returns : goal.returns
returns g c signer block =
    of_the_group (record {
      laws = c.laws_hold.ensures;
      to_members = c.replies_go_to_members.ensures;
      first_sizes = c.a_taken_message_has_its_sizes.ensures.first;
      third_sizes = c.a_taken_message_has_its_sizes.ensures.third;
      first_found = c.what_is_found_can_be_held.ensures.first;
      third_found = c.what_is_found_can_be_held.ensures.third;
      again_found = c.what_is_found_can_be_held.ensures.again;
    }) g.D.Disk g.G.Signer signer block

use Rattle.pull_msgs.proofs.DraftLemmas.{put_between}
use Rattle.pull_msgs.proofs.drafts.put_hash.Goals as goal

pub returns : goal.returns
returns c =
    put_between c.args.out.now c.as_mut_slice.result.now c.copy_from_slice.new.self c.args.hash.now c.as_mut_slice.ensures.value
    c.copy_from_slice.ensures.after c.told-hash c.requires

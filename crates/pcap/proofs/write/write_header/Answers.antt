use Rattle.pcap.specs.Write.{header_out}
use Rattle.pcap.proofs.WriteLaws.{put_or_full, header_list, header_list_lem}
use Rattle.pcap.proofs.write.write_header.Goals as goal

-- `write::write_header` meets its contract. Assumes nothing.
pub returns : goal.returns
unfolding header_out
returns c = rw header_list_lem (put_or_full _ header_list _ _ _ c.put.ensures.0 c.put.ensures.1 c.ok_or.ensures.value)

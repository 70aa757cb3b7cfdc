-- Worked files: document 01's adder and some corners of the format, computed by the definitions. Assumes nothing.
use Rattle.std.specs.Prelude.{ℕ}
use Rattle.lists.specs.Paths.{pick}
use Rattle.netlist.specs.Net.{node_at, element_at, width_at, source}
use Rattle.netlist.specs.Reach.{reads_test, reached_first, reached_next, reached_after, reaches_itself}
use Rattle.netlist.specs.Verdict.{bad_source, bad_width, unread, table_in_use, unread_table, in_loop, in_ring, verdict, reader_stages, reader_verdict}
use Rattle.netlist.specs.NodeField.{op_read, kind_read, element_read, sources_from, node_read}
use Rattle.netlist.specs.TableField.{words_good, filled_good, body_good, table_good, body_read, table_read}
use Rattle.netlist.specs.Scan.{table_step, node_step, end_step, step_at, walk, after_head, scan}
use Rattle.netlist.specs.File.{table_in, node_in, net_in, decode, file_verdict, check_answer}

-- all that computes
unfoldable pub reading : ℕ
unfolding pick op_read kind_read element_read sources_from node_read words_good filled_good body_good table_good body_read table_read table_step node_step end_step step_at walk after_head scan table_in node_in net_in decode
reading = 0

unfoldable pub checking : ℕ
unfolding reading node_at element_at width_at source reads_test reached_first reached_next reached_after reaches_itself bad_source bad_width unread table_in_use unread_table in_loop in_ring verdict reader_stages reader_verdict file_verdict check_answer
checking = 0

pub mod PutBoth
